-- Givens and choices in the words of a line.
use Rattle.std.proofs.Common.{◌≡◌, refl, ◌∙◌, ap, ℕ, ℤ, suc, ◌<◌, ◌≤◌, List, [], ◌∷◌, ◌++◌, length, length-drop, map, drop, Bool, true, false, nat_lt, if◌then◌else◌, Option, None, Some, Result, Ok, arith}
use Rattle.std.specs.Prelude.{codes, decimal, int_le}
use Rattle.std.specs.Fmt.{signed_decimal}
use Rattle.std.specs.List.{list_all}
use Rattle.std.proofs.lemmas.Bool.{and_from}
use Rattle.kts_base.specs.Limits.{most_arguments}
use Rattle.kts_base.specs.Names.{is_between}
use Rattle.kts_base.specs.Reads.{each_from}
use Rattle.kts_code.specs.CodeTexts.{type_words, family_words}
use Rattle.kts_spec.specs.Names.{is_language_name}
use Rattle.kts_spec.specs.Schemas.{is_end, is_family}
use Rattle.kts_spec.specs.declared.declarations.Family.{Family}
use Rattle.kts_spec.specs.declared.declarations.ValueType.{ValueType}
use Rattle.kts_spec.specs.declared.declarations.ValueType.TheVariants.{Int, Member}
use Rattle.kts_read.specs.DeclarationLines.{is_taken, new_name, end_or, end_at, number_or, index_at, int_type, member_type, args_from, named_family, family_in}
use Rattle.kts_read.specs.Words.{is_text, word, name_in, number_of, number_below}
use Rattle.kts_read.specs.declared.declarations.Declared.{Declared}
use Rattle.kts_read.specs.declared.fault.CodeKind.{CodeKind}
use Rattle.kts_read.proofs.ArgumentLoops.{args_at}
use Rattle.kts_read.proofs.NumberTexts.{text_same, number_text}
use Rattle.kts_read.proofs.Tests.{if_ok, else_ok, ok_same, then_ok, accepted, name_found, below_found, between_parts, test_of, lt_test, le_test}

-- ---- indexes

pub index_found : (indexes i : ℕ) (bytes : List ℕ) → index_at indexes bytes ≡ Ok i → (bytes ≡ decimal i) × (i < indexes)
unfolding index_at
index_found indexes i bytes e = by_number (number_below indexes bytes) refl e
  where
    by_number : (found : Option ℕ) → number_below indexes bytes ≡ found → number_or found ≡ Ok i → (bytes ≡ decimal i) × (i < indexes)
    by_number None f s = absurd cc
    by_number (Some n) f s = let same : n ≡ i = ok_same n i s in let w = below_found indexes n bytes f in rw (← same) w

pub args_found : (indexes : ℕ) (words : List (List ℕ)) (args : List ℕ) → args_at indexes words ≡ Ok args → (words ≡ map decimal args) × (list_all (λ i. nat_lt i indexes) args ≡ true)
unfolding each_from
args_found indexes [] args e = let same : [] ≡ args = cc in rw (← same) (refl, refl)
args_found indexes (w ∷ ws) args e =
    let a = then_ok (index_at indexes w) _ args e in
    let b = then_ok (args_at indexes ws) _ args a.2 in
    let one = index_found indexes a.0 w a.1 in
    let more = args_found indexes ws b.0 b.1 in
    let same : a.0 ∷ b.0 ≡ args = ok_same _ _ b.2 in
    rw (← same) (
      ap (λ (x : List ℕ). x ∷ ws) one.0 ∙ ap (λ (xs : List (List ℕ)). decimal a.0 ∷ xs) more.0,
      and_from (nat_lt a.0 indexes) (list_all (λ i. nat_lt i indexes) b.0) (lt_test a.0 indexes one.1) more.1,
    )

pub map_count : {X Y : Type 0} (f : X → Y) (xs : List X) → length (map f xs) ≡ length xs
map_count f [] = refl
map_count f (x ∷ xs) = ap suc (map_count f xs)

-- ---- types

end_found : (z : ℤ) (bytes : List ℕ) → end_at bytes ≡ Ok z → (bytes ≡ signed_decimal z) × (is_end z ≡ true)
unfolding end_at
end_found z bytes e = by_number (number_of bytes) refl e
  where
    by_number : (found : Option ℤ) → number_of bytes ≡ found → end_or found ≡ Ok z → (bytes ≡ signed_decimal z) × (is_end z ≡ true)
    by_number None f s = absurd cc
    by_number (Some y) f s = let c = if_ok (is_end y) (accepted y) _ z s in let same : y ≡ z = ok_same y z c.1 in rw (← same) ((number_text bytes y f).0, c.0)

four_words : (words : List (List ℕ)) → 4 ≤ length words → words ≡ word words 0 ∷ word words 1 ∷ word words 2 ∷ word words 3 ∷ drop 4 words
four_words [] h = absurd (omega arith)
four_words (a ∷ []) h = absurd (omega arith)
four_words (a ∷ b ∷ []) h = absurd (omega arith)
four_words (a ∷ b ∷ c ∷ []) h = absurd (omega arith)
four_words (a ∷ b ∷ c ∷ d ∷ ws) h = refl

five_words : (words : List (List ℕ)) → 5 ≤ length words → words ≡ word words 0 ∷ word words 1 ∷ word words 2 ∷ word words 3 ∷ word words 4 ∷ drop 5 words
five_words [] h = absurd (omega arith)
five_words (a ∷ []) h = absurd (omega arith)
five_words (a ∷ b ∷ []) h = absurd (omega arith)
five_words (a ∷ b ∷ c ∷ []) h = absurd (omega arith)
five_words (a ∷ b ∷ c ∷ d ∷ []) h = absurd (omega arith)
five_words (a ∷ b ∷ c ∷ d ∷ e ∷ ws) h = refl

five_same : (w a b c d : List ℕ) (rest : List (List ℕ)) (a' b' c' d' : List ℕ) (rest' : List (List ℕ)) → a ≡ a' → b ≡ b' → c ≡ c' → d ≡ d' → rest ≡ rest' → w ∷ a ∷ b ∷ c ∷ d ∷ rest ≡ w ∷ a' ∷ b' ∷ c' ∷ d' ∷ rest'
five_same w a b c d rest a' b' c' d' rest' e f g h i = rw (e, f, g, h, i) refl

four_same : (w a b c : List ℕ) (rest : List (List ℕ)) (a' b' c' : List ℕ) (rest' : List (List ℕ)) → a ≡ a' → b ≡ b' → c ≡ c' → rest ≡ rest' → w ∷ a ∷ b ∷ c ∷ rest ≡ w ∷ a' ∷ b' ∷ c' ∷ rest'
four_same w a b c rest a' b' c' rest' e f g i = rw (e, f, g, i) refl

-- ---- a family

-- what a line that declares a family says
pub record SaysFamily (x : Declared) (words : List (List ℕ)) (family : Family) : Type 0 where
  pub spelled : words ≡ word words 0 ∷ family_words family
  pub name : is_language_name family.name ≡ true
  pub fresh : is_taken x family.name ≡ false
  pub sound : is_family (length x.indexes) family ≡ true

pub new_found : (x : Declared) (bytes name : List ℕ) → new_name x bytes ≡ Some name → (bytes ≡ name) × (is_language_name name ≡ true) × (is_taken x name ≡ false)
new_found x bytes name e = by_test (is_taken x bytes) refl e
  where
    by_test : (t : Bool) → is_taken x bytes ≡ t → (if t then None else name_in bytes) ≡ Some name → (bytes ≡ name) × (is_language_name name ≡ true) × (is_taken x name ≡ false)
    by_test true f s = absurd cc
    by_test false f s = let n = name_found bytes name s in (n.0, n.1, rw n.0 at f)

named_found : (x : Declared) (bytes : List ℕ) (kind : Result ValueType CodeKind) (args : Result (List ℕ) CodeKind) (f : Family) → named_family (new_name x bytes) kind args ≡ Ok f
    → (bytes ≡ f.name) × (is_language_name f.name ≡ true) × (is_taken x f.name ≡ false) × (kind ≡ Ok f.kind) × (args ≡ Ok f.args)
named_found x bytes kind args f e = by_name (new_name x bytes) refl e
  where
    by_name : (found : Option (List ℕ)) → new_name x bytes ≡ found → named_family found kind args ≡ Ok f → (bytes ≡ f.name) × (is_language_name f.name ≡ true) × (is_taken x f.name ≡ false) × (kind ≡ Ok f.kind) × (args ≡ Ok f.args)
    by_name None n s = absurd cc
    by_name (Some name) n s =
        let new = new_found x bytes name n in
        let a = then_ok kind _ f s in
        let b = then_ok args _ f a.2 in
        let same = ok_same _ _ b.2 in
        rw (← same) (new.0, new.1, new.2, a.1, b.1)

int_found : (x : Declared) (words : List (List ℕ)) (f : Family) → word words 2 ≡ codes "int" → is_between 5 7 (length words) ≡ true → named_family (new_name x (word words 1)) (int_type words) (args_from (length x.indexes) 5 words) ≡ Ok f → SaysFamily x words f
unfolding int_type args_from
int_found x words f head count s =
    let n = named_found x (word words 1) (int_type words) (args_from (length x.indexes) 5 words) f s in
    let between = between_parts 5 7 (length words) count in
    let lo = then_ok (end_at (word words 3)) _ f.kind n.3 in
    let hi = then_ok (end_at (word words 4)) _ f.kind lo.2 in
    let order = if_ok (int_le lo.0 hi.0) (accepted (Int lo.0 hi.0)) _ f.kind hi.2 in
    let kind : Int lo.0 hi.0 ≡ f.kind = ok_same _ _ order.1 in
    let low = end_found lo.0 (word words 3) lo.1 in
    let high = end_found hi.0 (word words 4) hi.1 in
    let args = args_found (length x.indexes) (drop 5 words) f.args n.4 in
    let few : length f.args ≤ most_arguments = omega (arith, length-drop 5 words, ap length args.0, map_count decimal f.args) in
    record {
      spelled = five_words words between.0 ∙ five_same (word words 0) _ _ _ _ _ _ _ _ _ _ n.0 head low.0 high.0 args.0 ∙ ap (λ (k : ValueType). word words 0 ∷ f.name ∷ (type_words k ++ map decimal f.args)) kind;
      name = n.1;
      fresh = n.2;
      sound = rw (← kind) (and_from _ _ (and_from _ _ (le_test (length f.args) most_arguments few) args.1) (and_from _ _ (and_from _ _ low.1 high.1) order.0));
    }

member_found : (x : Declared) (words : List (List ℕ)) (f : Family) → word words 2 ≡ codes "mem" → is_between 4 6 (length words) ≡ true → named_family (new_name x (word words 1)) (member_type (length x.indexes) words) (args_from (length x.indexes) 4 words) ≡ Ok f → SaysFamily x words f
unfolding member_type args_from
member_found x words f head count s =
    let n = named_found x (word words 1) (member_type (length x.indexes) words) (args_from (length x.indexes) 4 words) f s in
    let between = between_parts 4 6 (length words) count in
    let i = then_ok (index_at (length x.indexes) (word words 3)) _ f.kind n.3 in
    let kind : Member i.0 ≡ f.kind = ok_same _ _ i.2 in
    let index = index_found (length x.indexes) i.0 (word words 3) i.1 in
    let args = args_found (length x.indexes) (drop 4 words) f.args n.4 in
    let few : length f.args ≤ most_arguments = omega (arith, length-drop 4 words, ap length args.0, map_count decimal f.args) in
    record {
      spelled = four_words words between.0 ∙ four_same (word words 0) _ _ _ _ _ _ _ _ n.0 head index.0 args.0 ∙ ap (λ (k : ValueType). word words 0 ∷ f.name ∷ (type_words k ++ map decimal f.args)) kind;
      name = n.1;
      fresh = n.2;
      sound = rw (← kind) (and_from _ _ (and_from _ _ (le_test (length f.args) most_arguments few) args.1) (lt_test i.0 (length x.indexes) index.1));
    }

pub family_found : (x : Declared) (words : List (List ℕ)) (f : Family) → family_in x words ≡ Ok f → SaysFamily x words f
unfolding family_in
family_found x words f e =
    let a = else_ok (nat_lt (length words) 3) _ _ f e in
    test_of (is_text (word words 2) (codes "int")) _ _ _ (SaysFamily x words f) a.1
    (λ t s. let b = if_ok (is_between 5 7 (length words)) _ _ f s in int_found x words f (text_same _ _ t) b.0 b.1)
    (λ no s.
    let c = if_ok (is_text (word words 2) (codes "mem")) _ _ f s in
    let b = if_ok (is_between 4 6 (length words)) _ _ f c.1 in member_found x words f (text_same _ _ c.0) b.0 b.1)
