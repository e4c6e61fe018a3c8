-- What the line of a declaration adds.
use Rattle.std.proofs.Common.{◌≡◌, refl, sym, ◌∙◌, ap, subst, ℕ, ◌<◌, ◌≤◌, ◌==◌, List, [], ◌∷◌, ◌++◌, append_assoc, append-nil, length, length-append, map, fold, Bool, true, false, not, ◌&&◌, nat_lt, nat_eq, if◌then◌else◌, Option, None, Some, Ok, arith}
use Rattle.std.specs.Prelude.{codes, decimal, slice_index_or}
use Rattle.std.specs.List.{list_all, list_any, AllByRecursion}
use Rattle.std.proofs.lemmas.Bool.{and_from}
use Rattle.kts_base.specs.Limits.{most_indexes, most_givens, most_choices}
use Rattle.kts_code.specs.CodeTexts.{family_words}
use Rattle.kts_spec.specs.Names.{is_language_name, is_among, is_distinct}
use Rattle.kts_spec.specs.Schemas.{DeclaredCounts, nothing_declared, declared_with, is_declaration, are_declarations, family_at, no_family, is_family, assigns_members}
use Rattle.kts_spec.specs.declared.declarations.Decl.{Decl}
use Rattle.kts_spec.specs.declared.declarations.Decl.TheVariants.{Index, Given, Choose, Manifest}
use Rattle.kts_spec.specs.declared.declarations.Family.{Family}
use Rattle.kts_write.specs.Declarations.{IsWithin}
use Rattle.kts_write.proofs.DeclaredThere.{are_within}
use Rattle.kts_read.specs.DeclarationLines.{is_taken, with_index, index_line, family_in, with_given, given_line, with_choice, choose_line, has_manifest, with_manifest, manifest_of, manifest_line}
use Rattle.kts_read.specs.Goods.{names_of, counted, AreDeclared}
use Rattle.kts_read.specs.Words.{word, name_in, number_below}
use Rattle.kts_read.specs.Written.{decl_line, decl_lines}
use Rattle.kts_read.specs.declared.declarations.Declared.{Declared}
use Rattle.kts_read.proofs.FamilyLines.{SaysFamily, family_found}
use Rattle.kts_read.proofs.MoreDeclarations.{declared_on, ending_on, item_here, item_front, no_manifest, map_more}
use Rattle.kts_read.proofs.NewNames.{all_in, distinct_in}
use Rattle.kts_read.proofs.Tests.{if_ok, else_ok, ok_same, then_ok, same_length, two_words, name_found, below_found, lt_found, lt_test, eq_test, yes_not}

-- what a line makes of the declarations
pub record Declares (x : Declared) (words : List (List ℕ)) (y : Declared) : Type 0 where
  pub good : AreDeclared y
  pub lines : decl_lines y ≡ decl_lines x ++ words ∷ []

-- ---- lines that stay

abbrev IsNamed : Declared → Decl → Type 0
IsNamed x decl = IsWithin (length x.indexes) (length x.givens) (length x.choices) decl

-- what the declarations name is there
pub all_named : (x : Declared) → AreDeclared x → AllByRecursion (IsWithin (length x.indexes) (length x.givens) (length x.choices)) x.decls
all_named x a =
    let i = a.indexes in
    let g = a.givens in
    let c = a.choices in
    (are_within (x.givens ++ []) (x.choices ++ []) (length x.indexes) (length x.givens) (length x.choices) nothing_declared x.decls (a.declared [] [])
    (record { indexes = omega (arith, i); givens = omega (arith, g); choices = omega (arith, c) })).0

module _ (x y : Declared) (ns : List (List ℕ)) (gs cs : List Family) (is : y.indexes ≡ x.indexes ++ ns) (fs : y.givens ≡ x.givens ++ gs) (xs : y.choices ≡ x.choices ++ cs) where
  line_kept : (decl : Decl) → IsWithin (length x.indexes) (length x.givens) (length x.choices) decl → decl_line y decl ≡ decl_line x decl
  unfolding decl_line
  line_kept (Index i) h = ap (λ (name : List ℕ). codes "index" ∷ name ∷ []) (ap (λ names. slice_index_or names i []) is ∙ item_front x.indexes ns i [] h)
  line_kept (Given f) h = ap (λ (family : Family). codes "given" ∷ family_words family) (ap (λ families. family_at families f) fs ∙ item_front x.givens gs f no_family h)
  line_kept (Choose f) h = ap (λ (family : Family). codes "choose" ∷ family_words family) (ap (λ families. family_at families f) xs ∙ item_front x.choices cs f no_family h)
  line_kept (Manifest f) h = refl

  pub lines_kept : (decls : List Decl) → AllByRecursion (IsWithin (length x.indexes) (length x.givens) (length x.choices)) decls → map (decl_line y) decls ≡ map (decl_line x) decls
  lines_kept [] h = refl
  lines_kept (decl ∷ decls) h =
      ap (λ (line : List (List ℕ)). line ∷ map (decl_line y) decls) (line_kept decl h.0)
      ∙ ap (λ (lines : List (List (List ℕ))). decl_line x decl ∷ lines) (lines_kept decls h.1)

  -- one declaration more
  pub declares : (decl : Decl) (words : List (List ℕ)) → AreDeclared x → y.decls ≡ x.decls ++ decl ∷ [] → length y.indexes ≤ most_indexes → length y.givens ≤ most_givens → length y.choices ≤ most_choices
      → (list_all is_language_name (names_of y) ≡ true) × (is_distinct (names_of y) ≡ true)
      → ((hs es : List Family) → is_declaration (y.givens ++ hs) (y.choices ++ es) (counted x) decl ≡ true)
      → (declared_with (counted x) decl).indexes ≡ length y.indexes → (declared_with (counted x) decl).givens ≡ length y.givens → (declared_with (counted x) decl).choices ≡ length y.choices
      → decl_line y decl ≡ words → Declares x words y
  declares decl words a ds few_indexes few_givens few_choices names one ci cg cx line =
      let ending : counted y ≡ declared_with (counted x) decl = ap (fold declared_with nothing_declared) ds ∙ ending_on nothing_declared x.decls decl in
      record {
        good = record {
          few_indexes = few_indexes;
          few_givens = few_givens;
          few_choices = few_choices;
          named = names.0;
          distinct = names.1;
          declared = (λ hs es.
              let old : are_declarations (y.givens ++ hs) (y.choices ++ es) nothing_declared x.decls ≡ true =
              ap (λ families. are_declarations families (y.choices ++ es) nothing_declared x.decls) (ap (λ families. families ++ hs) fs ∙ append_assoc x.givens gs hs)
              ∙ ap (λ families. are_declarations (x.givens ++ (gs ++ hs)) families nothing_declared x.decls) (ap (λ families. families ++ es) xs ∙ append_assoc x.choices cs es)
              ∙ a.declared (gs ++ hs) (cs ++ es) in
              ap (are_declarations (y.givens ++ hs) (y.choices ++ es) nothing_declared) ds ∙ declared_on (y.givens ++ hs) (y.choices ++ es) nothing_declared x.decls decl old (one hs es));
          indexes = ap (λ (c : DeclaredCounts). c.indexes) ending ∙ ci;
          givens = ap (λ (c : DeclaredCounts). c.givens) ending ∙ cg;
          choices = ap (λ (c : DeclaredCounts). c.choices) ending ∙ cx;
        };
        lines =
            ap (map (decl_line y)) ds ∙ map_more (decl_line y) x.decls decl
            ∙ ap (λ (lines : List (List (List ℕ))). lines ++ decl_line y decl ∷ []) (lines_kept x.decls (all_named x a))
            ∙ ap (λ (w : List (List ℕ)). decl_lines x ++ w ∷ []) line;
      }

-- ---- one name more

names_more : (x y : Declared) (xs ys : List (List ℕ)) (n : List ℕ) → names_of x ≡ xs ++ ys → names_of y ≡ xs ++ n ∷ ys → AreDeclared x → is_language_name n ≡ true → is_taken x n ≡ false
    → (list_all is_language_name (names_of y) ≡ true) × (is_distinct (names_of y) ≡ true)
unfolding is_taken
names_more x y xs ys n old new a named free = (
  ap (list_all is_language_name) new ∙ all_in is_language_name xs ys n (sym (ap (list_all is_language_name) old) ∙ a.named) named,
  ap is_distinct new ∙ distinct_in xs ys n (sym (ap is_distinct old) ∙ a.distinct) (sym (ap (λ names. is_among names n) old) ∙ free),
)

abbrev families_named : List Family → List (List ℕ)
families_named families = map (λ (f : Family). f.name) families

-- ---- an index

abbrev pub more_index : Declared → List ℕ → Declared
more_index x name = record { decls = x.decls ++ Index (length x.indexes) ∷ []; indexes = x.indexes ++ name ∷ []; givens = x.givens; choices = x.choices }

index_more : (x : Declared) (name : List ℕ) (words : List (List ℕ)) → AreDeclared x → length x.indexes < most_indexes → is_language_name name ≡ true → is_taken x name ≡ false → words ≡ codes "index" ∷ name ∷ [] → Declares x words (more_index x name)
unfolding decl_line
index_more x name words a room named free is =
    let rest = families_named x.givens ++ families_named x.choices in
    let count = length-append x.indexes (name ∷ []) in
    let old = a.indexes in
    declares x (more_index x name) (name ∷ []) [] [] refl (sym (append-nil x.givens)) (sym (append-nil x.choices)) (Index (length x.indexes)) words a refl
    (omega (arith, count, room)) a.few_givens a.few_choices
    (names_more x (more_index x name) x.indexes rest name refl (append_assoc x.indexes (name ∷ []) rest) a named free)
    (λ hs es. eq_test (length x.indexes) (counted x).indexes (sym old)) (omega (arith, count, old)) a.givens a.choices
    (ap (λ (n : List ℕ). codes "index" ∷ n ∷ []) (item_here x.indexes [] name []) ∙ sym is)

pub index_declares : (x y : Declared) (words : List (List ℕ)) → AreDeclared x → word words 0 ≡ codes "index" → index_line x words ≡ Ok y → Declares x words y
unfolding index_line
index_declares x y words a first e =
    let l = if_ok (length words == 2) _ _ y e in by_taken (is_taken x (word words 1)) refl (two_words words (same_length _ _ l.0)) l.1
  where
    by_name : (found : Option (List ℕ)) → name_in (word words 1) ≡ found → is_taken x (word words 1) ≡ false → words ≡ word words 0 ∷ word words 1 ∷ [] → with_index x found ≡ Ok y → Declares x words y
    by_name None n free two s = absurd cc
    by_name (Some name) n free two s =
        let m = name_found (word words 1) name n in
        let r = if_ok (nat_lt (length x.indexes) most_indexes) _ _ y s in
        let is : words ≡ codes "index" ∷ name ∷ [] = two ∙ ap (λ (w : List ℕ). w ∷ word words 1 ∷ []) first ∙ ap (λ (w : List ℕ). codes "index" ∷ w ∷ []) m.0 in
        subst (Declares x words) (ok_same _ _ r.1) (index_more x name words a (lt_found _ _ r.0) m.1 (rw m.0 at free) is)

    by_taken : (t : Bool) → is_taken x (word words 1) ≡ t → words ≡ word words 0 ∷ word words 1 ∷ [] → with_index x (if t then None else name_in (word words 1)) ≡ Ok y → Declares x words y
    by_taken true f two s = absurd cc
    by_taken false f two s = by_name (name_in (word words 1)) refl f two s

-- ---- a given

abbrev pub more_given : Declared → Family → Declared
more_given x f = record { decls = x.decls ++ Given (length x.givens) ∷ []; indexes = x.indexes; givens = x.givens ++ f ∷ []; choices = x.choices }

named_more : (families : List Family) (f : Family) → families_named (families ++ f ∷ []) ≡ families_named families ++ f.name ∷ []
named_more families f = map_more (λ (g : Family). g.name) families f

family_more : (families gs : List Family) (f : Family) (indexes : ℕ) → is_family indexes f ≡ true → is_family indexes (family_at ((families ++ f ∷ []) ++ gs) (length families)) ≡ true
family_more families gs f indexes sound =
    ap (λ (g : Family). is_family indexes g) (ap (λ all. family_at all (length families)) (append_assoc families (f ∷ []) gs) ∙ item_here families gs f no_family) ∙ sound

given_more : (x : Declared) (words : List (List ℕ)) (f : Family) → AreDeclared x → SaysFamily x words f → word words 0 ≡ codes "given" → length x.givens < most_givens → Declares x words (more_given x f)
unfolding decl_line
given_more x words f a s first room =
    let givens = families_named x.givens in
    let choices = families_named x.choices in
    let count = length-append x.givens (f ∷ []) in
    let old = a.givens in
    let sound : is_family (counted x).indexes f ≡ true = ap (λ n. is_family n f) a.indexes ∙ s.sound in
    declares x (more_given x f) [] (f ∷ []) [] (sym (append-nil x.indexes)) refl (sym (append-nil x.choices)) (Given (length x.givens)) words a refl
    a.few_indexes (omega (arith, count, room)) a.few_choices
    (names_more x (more_given x f) (x.indexes ++ givens) choices f.name (sym (append_assoc x.indexes givens choices))
    (ap (λ (names : List (List ℕ)). x.indexes ++ (names ++ choices)) (named_more x.givens f) ∙ ap (λ (names : List (List ℕ)). x.indexes ++ names) (append_assoc givens (f.name ∷ []) choices) ∙ sym (append_assoc x.indexes givens (f.name ∷ choices)))
    a s.name s.fresh)
    (λ hs es. and_from (nat_eq (length x.givens) (counted x).givens) _ (eq_test (length x.givens) (counted x).givens (sym old)) (family_more x.givens hs f (counted x).indexes sound))
    a.indexes (omega (arith, count, old)) a.choices
    (ap (λ (family : Family). codes "given" ∷ family_words family) (item_here x.givens [] f no_family) ∙ ap (λ (w : List ℕ). w ∷ family_words f) (sym first) ∙ sym s.spelled)

pub given_declares : (x y : Declared) (words : List (List ℕ)) → AreDeclared x → word words 0 ≡ codes "given" → given_line x words ≡ Ok y → Declares x words y
unfolding given_line with_given
given_declares x y words a first e =
    let f = then_ok (family_in x words) _ y e in
    let r = if_ok (nat_lt (length x.givens) most_givens) _ _ y f.2 in
    subst (Declares x words) (ok_same _ _ r.1) (given_more x words f.0 a (family_found x words f.0 f.1) first (lt_found _ _ r.0))

-- ---- a choice

abbrev pub more_choice : Declared → Family → Declared
more_choice x f = record { decls = x.decls ++ Choose (length x.choices) ∷ []; indexes = x.indexes; givens = x.givens; choices = x.choices ++ f ∷ [] }

choice_more : (x : Declared) (words : List (List ℕ)) (f : Family) → AreDeclared x → SaysFamily x words f → word words 0 ≡ codes "choose" → length x.choices < most_choices → Declares x words (more_choice x f)
unfolding decl_line
choice_more x words f a s first room =
    let givens = families_named x.givens in
    let choices = families_named x.choices in
    let count = length-append x.choices (f ∷ []) in
    let old = a.choices in
    let sound : is_family (counted x).indexes f ≡ true = ap (λ n. is_family n f) a.indexes ∙ s.sound in
    declares x (more_choice x f) [] [] (f ∷ []) (sym (append-nil x.indexes)) (sym (append-nil x.givens)) refl (Choose (length x.choices)) words a refl
    a.few_indexes a.few_givens (omega (arith, count, room))
    (names_more x (more_choice x f) (names_of x) [] f.name (sym (append-nil (names_of x)))
    (ap (λ (names : List (List ℕ)). x.indexes ++ (givens ++ names)) (named_more x.choices f) ∙ ap (λ (names : List (List ℕ)). x.indexes ++ names) (sym (append_assoc givens choices (f.name ∷ []))) ∙ sym (append_assoc x.indexes (givens ++ choices) (f.name ∷ [])))
    a s.name s.fresh)
    (λ hs es. and_from (nat_eq (length x.choices) (counted x).choices) _ (eq_test (length x.choices) (counted x).choices (sym old)) (family_more x.choices es f (counted x).indexes sound))
    a.indexes a.givens (omega (arith, count, old))
    (ap (λ (family : Family). codes "choose" ∷ family_words family) (item_here x.choices [] f no_family) ∙ ap (λ (w : List ℕ). w ∷ family_words f) (sym first) ∙ sym s.spelled)

pub choose_declares : (x y : Declared) (words : List (List ℕ)) → AreDeclared x → word words 0 ≡ codes "choose" → choose_line x words ≡ Ok y → Declares x words y
unfolding choose_line with_choice
choose_declares x y words a first e =
    let f = then_ok (family_in x words) _ y e in
    let r = if_ok (nat_lt (length x.choices) most_choices) _ _ y f.2 in
    subst (Declares x words) (ok_same _ _ r.1) (choice_more x words f.0 a (family_found x words f.0 f.1) first (lt_found _ _ r.0))

-- ---- a manifest

abbrev pub more_manifest : Declared → ℕ → Declared
more_manifest x choice = record { decls = x.decls ++ Manifest choice ∷ []; indexes = x.indexes; givens = x.givens; choices = x.choices }

manifest_more : (x : Declared) (choice : ℕ) (words : List (List ℕ)) → AreDeclared x → choice < length x.choices → assigns_members (family_at x.choices choice) ≡ true → has_manifest x.decls choice ≡ false → words ≡ codes "manifest" ∷ decimal choice ∷ []
    → Declares x words (more_manifest x choice)
unfolding decl_line
manifest_more x choice words a there assigns free is =
    let old = a.choices in
    declares x (more_manifest x choice) [] [] [] (sym (append-nil x.indexes)) (sym (append-nil x.givens)) (sym (append-nil x.choices)) (Manifest choice) words a refl
    a.few_indexes a.few_givens a.few_choices (a.named, a.distinct)
    (λ hs es. and_from (nat_lt choice (counted x).choices && assigns_members (family_at (x.choices ++ es) choice)) (not (list_any (nat_eq choice) (counted x).manifests))
    (and_from (nat_lt choice (counted x).choices) (assigns_members (family_at (x.choices ++ es) choice)) (lt_test choice (counted x).choices (omega (arith, there, old)))
    (ap assigns_members (item_front x.choices es choice no_family there) ∙ assigns))
    (yes_not (list_any (nat_eq choice) (counted x).manifests) (no_manifest choice nothing_declared x.decls free refl)))
    a.indexes a.givens a.choices (sym is)

pub manifest_declares : (x y : Declared) (words : List (List ℕ)) → AreDeclared x → word words 0 ≡ codes "manifest" → manifest_line x words ≡ Ok y → Declares x words y
unfolding manifest_line with_manifest
manifest_declares x y words a first e =
    let l = if_ok (length words == 2) _ _ y e in by_number (number_below (length x.choices) (word words 1)) refl (two_words words (same_length _ _ l.0)) l.1
  where
    by_number : (found : Option ℕ) → number_below (length x.choices) (word words 1) ≡ found → words ≡ word words 0 ∷ word words 1 ∷ [] → manifest_of x found ≡ Ok y → Declares x words y
    by_number None f two s = absurd cc
    by_number (Some choice) f two s =
        let n = below_found (length x.choices) choice (word words 1) f in
        let p = if_ok (assigns_members (family_at x.choices choice)) _ _ y s in
        let q = else_ok (has_manifest x.decls choice) _ _ y p.1 in
        let is : words ≡ codes "manifest" ∷ decimal choice ∷ [] = two ∙ ap (λ (w : List ℕ). w ∷ word words 1 ∷ []) first ∙ ap (λ (w : List ℕ). codes "manifest" ∷ w ∷ []) n.0 in
        subst (Declares x words) (ok_same _ _ q.1) (manifest_more x choice words a n.1 p.0 q.0 is)
