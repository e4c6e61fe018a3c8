-- The declarations are read one after another.
use Rattle.std.proofs.Common.{◌≡◌, refl, sym, ◌∙◌, ap, subst, ℕ, zero, suc, ◌<◌, ◌≤◌, List, [], ◌∷◌, ◌++◌, append-nil, length, take, map, fold, get_or, Bool, true, false, not, ◌&&◌, nat_eq, nat_lt, Some, Ok, arith}
use Rattle.std.specs.Prelude.{codes, decimal}
use Rattle.std.specs.List.{list_all, list_any, AllByRecursion}
use Rattle.std.proofs.lemmas.Bool.{and_parts}
use Rattle.std.proofs.lemmas.List.Folds.{list_all-append}
use Rattle.std.proofs.lemmas.List.{take_all}
use Rattle.kts_base.specs.Limits.{most_instructions}
use Rattle.kts_code.specs.CodeTexts.{family_words}
use Rattle.kts_spec.specs.Names.{is_language_name, is_among}
use Rattle.kts_spec.specs.Schemas.{DeclaredCounts, nothing_declared, declared_with, is_declaration, are_declarations, family_at, no_family, is_family, assigns_members}
use Rattle.kts_spec.specs.declared.declarations.Decl.{Decl}
use Rattle.kts_spec.specs.declared.declarations.Decl.TheVariants.{Index, Given, Choose, Manifest}
use Rattle.kts_spec.specs.declared.declarations.Family.{Family}
use Rattle.kts_write.specs.Declarations.{IsWithin}
use Rattle.kts_read.specs.ConstraintLines.{no_constraints}
use Rattle.kts_read.specs.DeclarationLines.{is_taken, has_manifest}
use Rattle.kts_read.specs.Goods.{AreDeclared, counted}
use Rattle.kts_read.specs.Reading.{declaration_line}
use Rattle.kts_read.specs.Written.{AllWords, decl_line, decl_lines}
use Rattle.kts_read.specs.declared.declarations.Declared.{Declared}
use Rattle.kts_read.specs.declared.draft.Draft.{Draft}
use Rattle.kts_read.specs.declared.draft.Part.TheVariants.{Declarations}
use Rattle.kts_read.proofs.Arrivals.{Leads, leads_by, Arrives, arrives_all}
use Rattle.kts_read.proofs.Cleans.{name_clean, decimal_clean, literal}
use Rattle.kts_read.proofs.DeclarationAdds.{all_named, more_index, more_given, more_choice, more_manifest}
use Rattle.kts_read.proofs.DeclarationsAgain.{every_at, declared_at, CountsWithin, counts_within, manifest_counted, index_again, given_again, choose_again, manifest_again}
use Rattle.kts_read.proofs.DistinctNames.{take_next, take_count, take_item, map_take, map_item, fronts, first_free, second_free, third_free}
use Rattle.kts_read.proofs.FamiliesAgain.{family_clean}
use Rattle.kts_read.proofs.FamilyLines.{map_count}
use Rattle.kts_read.proofs.MoreDeclarations.{ending_on}
use Rattle.kts_read.proofs.Tests.{eq_found, lt_found, not_yes}

-- an item of a list that passes a test
pub all_item : {X : Type 0} (test : X → Bool) (xs : List X) (k : ℕ) (d : X) → list_all test xs ≡ true → k < length xs → test (get_or xs k d) ≡ true
all_item test [] k d h l = absurd (omega (arith, l))
all_item test (x ∷ xs) zero d h l = (and_parts (test x) (list_all test xs) h).0
all_item test (x ∷ xs) (suc k) d h l = all_item test xs k d (and_parts (test x) (list_all test xs) h).1 (omega (arith, l))

abbrev families_named : List Family → List (List ℕ)
families_named families = map (λ (f : Family). f.name) families

abbrev pub declared : List Decl → List (List ℕ) → List Family → List Family → Declared
declared d i g c = record { decls = d; indexes = i; givens = g; choices = c }

same_declared : (d e : List Decl) (i j : List (List ℕ)) (g h c b : List Family) → d ≡ e → i ≡ j → g ≡ h → c ≡ b → declared d i g c ≡ declared e j h b
same_declared d e i j g h c b p q r s = rw (p, q, r, s) refl

-- what is known after the line of the name and these declarations
abbrev pub opened : List ℕ → Declared → Draft
opened name y = record { part = Declarations; name = Some name; declared = y; constraints = no_constraints; stack = 0; size = 0; instrs = [] }

module _ (x : Declared) (a : AreDeclared x) where
  abbrev counts : List Decl → DeclaredCounts
  counts done = fold declared_with nothing_declared done

  -- what these of the declarations declare
  abbrev pub declared_by : List Decl → Declared
  declared_by done = record { decls = done; indexes = take (counts done).indexes x.indexes; givens = take (counts done).givens x.givens; choices = take (counts done).choices x.choices }

  sound : are_declarations x.givens x.choices nothing_declared x.decls ≡ true
  sound =
      ap (λ gs. are_declarations gs x.choices nothing_declared x.decls) (sym (append-nil x.givens))
      ∙ ap (λ cs. are_declarations (x.givens ++ []) cs nothing_declared x.decls) (sym (append-nil x.choices)) ∙ a.declared [] []

  -- ---- names

  names : (list_all is_language_name x.indexes ≡ true) × (list_all is_language_name (families_named x.givens) ≡ true) × (list_all is_language_name (families_named x.choices) ≡ true)
  names =
      let gs = families_named x.givens in
      let cs = families_named x.choices in
      let one = and_parts (list_all is_language_name x.indexes) (list_all is_language_name (families_named x.givens ++ families_named x.choices)) (sym (list_all-append is_language_name x.indexes (families_named x.givens ++ families_named x.choices)) ∙ a.named) in
      let two = and_parts (list_all is_language_name (families_named x.givens)) (list_all is_language_name (families_named x.choices)) (sym (list_all-append is_language_name (families_named x.givens) (families_named x.choices)) ∙ one.1) in
      (one.0, two.0, two.1)

  given_name : (k : ℕ) → k < length x.givens → get_or (families_named x.givens) k [] ≡ (family_at x.givens k).name
  given_name k h = map_item (λ (f : Family). f.name) x.givens k no_family [] h

  choice_name : (k : ℕ) → k < length x.choices → get_or (families_named x.choices) k [] ≡ (family_at x.choices k).name
  choice_name k h = map_item (λ (f : Family). f.name) x.choices k no_family [] h

  given_named : (k : ℕ) → k < length x.givens → is_language_name (family_at x.givens k).name ≡ true
  given_named k h = ap is_language_name (sym (given_name k h)) ∙ all_item is_language_name (families_named x.givens) k [] names.1 (omega (arith, h, map_count (λ (f : Family). f.name) x.givens))

  choice_named : (k : ℕ) → k < length x.choices → is_language_name (family_at x.choices k).name ≡ true
  choice_named k h = ap is_language_name (sym (choice_name k h)) ∙ all_item is_language_name (families_named x.choices) k [] names.2 (omega (arith, h, map_count (λ (f : Family). f.name) x.choices))

  -- ---- a declaration, and those before it
  module _ (done more : List Decl) where
    abbrev n : DeclaredCounts
    n = fold declared_with nothing_declared done

    -- the names so far
    abbrev before : List (List ℕ)
    before = fronts x.indexes (families_named x.givens) (families_named x.choices) a.distinct n.indexes n.givens n.choices

    free_by : (name : List ℕ) → is_among before name ≡ false → is_taken (declared_by done) name ≡ false
    unfolding is_taken
    free_by name h =
        ap (λ (ns : List (List ℕ)). is_among (take n.indexes x.indexes ++ (ns ++ families_named (take n.choices x.choices))) name) (map_take (λ (f : Family). f.name) x.givens n.givens)
        ∙ ap (λ (ns : List (List ℕ)). is_among (take n.indexes x.indexes ++ (take n.givens (families_named x.givens) ++ ns)) name) (map_take (λ (f : Family). f.name) x.choices n.choices) ∙ h

    module _ (decl : Decl) (all : done ++ decl ∷ more ≡ x.decls) where
      within : CountsWithin n (counted x)
      within = counts_within nothing_declared done (decl ∷ more) x.decls all

      is_next : is_declaration x.givens x.choices n decl ≡ true
      is_next = declared_at x.givens x.choices nothing_declared done more decl (ap (are_declarations x.givens x.choices nothing_declared) all ∙ sound)

      there : IsWithin (length x.indexes) (length x.givens) (length x.choices) decl
      there = every_at (IsWithin (length x.indexes) (length x.givens) (length x.choices)) done more decl (subst (AllByRecursion (IsWithin (length x.indexes) (length x.givens) (length x.choices))) (sym all) (all_named x a))

      ending : counts (done ++ decl ∷ []) ≡ declared_with n decl
      ending = ending_on nothing_declared done decl

      count_indexes : length (take n.indexes x.indexes) ≡ n.indexes
      count_indexes = let w = within.indexes in let e = a.indexes in take_count x.indexes n.indexes (omega (arith, w, e))

      count_givens : length (take n.givens x.givens) ≡ n.givens
      count_givens = let w = within.givens in let e = a.givens in take_count x.givens n.givens (omega (arith, w, e))

      count_choices : length (take n.choices x.choices) ≡ n.choices
      count_choices = let w = within.choices in let e = a.choices in take_count x.choices n.choices (omega (arith, w, e))

      few_indexes : n.indexes ≤ most_instructions
      few_indexes = let w = within.indexes in let e = a.indexes in let f = a.few_indexes in omega (arith, w, e, f)

      few_choices : n.choices ≤ most_instructions
      few_choices = let w = within.choices in let e = a.choices in let f = a.few_choices in omega (arith, w, e, f)

    index_makes : (i : ℕ) → done ++ Index i ∷ more ≡ x.decls → i ≡ n.indexes → i < length x.indexes → more_index (declared_by done) (get_or x.indexes i []) ≡ declared_by (done ++ Index i ∷ [])
    index_makes i all same less =
        let e = ending (Index i) all in
        same_declared (done ++ Index (length (take n.indexes x.indexes)) ∷ []) (done ++ Index i ∷ []) _ _ _ _ _ _
        (ap (λ k. done ++ Index k ∷ []) (count_indexes (Index i) all ∙ sym same))
        (ap (λ k. take n.indexes x.indexes ++ get_or x.indexes k [] ∷ []) same ∙ sym (take_next x.indexes n.indexes [] (omega (arith, same, less))) ∙ ap (λ (c : DeclaredCounts). take c.indexes x.indexes) (sym e))
        (ap (λ (c : DeclaredCounts). take c.givens x.givens) (sym e)) (ap (λ (c : DeclaredCounts). take c.choices x.choices) (sym e))

    given_makes : (f : ℕ) → done ++ Given f ∷ more ≡ x.decls → f ≡ n.givens → f < length x.givens → more_given (declared_by done) (family_at x.givens f) ≡ declared_by (done ++ Given f ∷ [])
    given_makes f all same less =
        let e = ending (Given f) all in
        same_declared (done ++ Given (length (take n.givens x.givens)) ∷ []) (done ++ Given f ∷ []) _ _ _ _ _ _
        (ap (λ k. done ++ Given k ∷ []) (count_givens (Given f) all ∙ sym same)) (ap (λ (c : DeclaredCounts). take c.indexes x.indexes) (sym e))
        (ap (λ k. take n.givens x.givens ++ family_at x.givens k ∷ []) same ∙ sym (take_next x.givens n.givens no_family (omega (arith, same, less))) ∙ ap (λ (c : DeclaredCounts). take c.givens x.givens) (sym e))
        (ap (λ (c : DeclaredCounts). take c.choices x.choices) (sym e))

    choose_makes : (f : ℕ) → done ++ Choose f ∷ more ≡ x.decls → f ≡ n.choices → f < length x.choices → more_choice (declared_by done) (family_at x.choices f) ≡ declared_by (done ++ Choose f ∷ [])
    choose_makes f all same less =
        let e = ending (Choose f) all in
        same_declared (done ++ Choose (length (take n.choices x.choices)) ∷ []) (done ++ Choose f ∷ []) _ _ _ _ _ _
        (ap (λ k. done ++ Choose k ∷ []) (count_choices (Choose f) all ∙ sym same)) (ap (λ (c : DeclaredCounts). take c.indexes x.indexes) (sym e)) (ap (λ (c : DeclaredCounts). take c.givens x.givens) (sym e))
        (ap (λ k. take n.choices x.choices ++ family_at x.choices k ∷ []) same ∙ sym (take_next x.choices n.choices no_family (omega (arith, same, less))) ∙ ap (λ (c : DeclaredCounts). take c.choices x.choices) (sym e))

    manifest_makes : (f : ℕ) → done ++ Manifest f ∷ more ≡ x.decls → more_manifest (declared_by done) f ≡ declared_by (done ++ Manifest f ∷ [])
    manifest_makes f all =
        let e = ending (Manifest f) all in
        same_declared (done ++ Manifest f ∷ []) (done ++ Manifest f ∷ []) _ _ _ _ _ _ refl
        (ap (λ (c : DeclaredCounts). take c.indexes x.indexes) (sym e)) (ap (λ (c : DeclaredCounts). take c.givens x.givens) (sym e)) (ap (λ (c : DeclaredCounts). take c.choices x.choices) (sym e))

  -- ---- the lines

  module _ (name : List ℕ) where
    decl_leads : (done : List Decl) (decl : Decl) (more : List Decl) → done ++ decl ∷ more ≡ x.decls → Leads (opened name (declared_by done)) (decl_line x decl) (opened name (declared_by (done ++ decl ∷ [])))
    unfolding decl_line declaration_line
    decl_leads done (Index i) more all =
        let n = fold declared_with nothing_declared done in
        let same : i ≡ n.indexes = eq_found i n.indexes (is_next done more (Index i) all) in
        let less : i < length x.indexes = there done more (Index i) all in
        let named : is_language_name (get_or x.indexes i []) ≡ true = all_item is_language_name x.indexes i [] names.0 less in
        let free = free_by done more (get_or x.indexes i []) (ap (λ k. is_among (before done more) (get_or x.indexes k [])) same ∙ first_free x.indexes (families_named x.givens) (families_named x.choices) a.distinct n.indexes n.givens n.choices (omega (arith, same, less))) in
        let few = a.few_indexes in
        let count = count_indexes done more (Index i) all in
        leads_by _ _ (codes "index") (get_or x.indexes i [] ∷ []) (λ e. cc) (literal (codes "index") (omega arith) refl, (name_clean (get_or x.indexes i []) named, tt))
        (λ at. rw (index_again (declared_by done) (get_or x.indexes i []) free named (omega (arith, count, same, less, few))) (ap (λ y. Ok (opened name y)) (index_makes done more i all same less)))
    decl_leads done (Given f) more all =
        let n = fold declared_with nothing_declared done in
        let next = and_parts (nat_eq f n.givens) (is_family n.indexes (family_at x.givens f)) (is_next done more (Given f) all) in
        let same : f ≡ n.givens = eq_found f n.givens next.0 in
        let less : f < length x.givens = there done more (Given f) all in
        let named = given_named f less in
        let free = free_by done more (family_at x.givens f).name (ap (is_among (before done more)) (sym (given_name f less)) ∙ ap (λ k. is_among (before done more) (get_or (families_named x.givens) k [])) same
        ∙ second_free x.indexes (families_named x.givens) (families_named x.choices) a.distinct n.indexes n.givens n.choices (omega (arith, same, less, map_count (λ (f : Family). f.name) x.givens))) in
        let few = a.few_givens in
        let count = count_givens done more (Given f) all in
        let counted_indexes = count_indexes done more (Given f) all in
        let small = few_indexes done more (Given f) all in
        let family_sound : is_family (length (take n.indexes x.indexes)) (family_at x.givens f) ≡ true = ap (λ k. is_family k (family_at x.givens f)) counted_indexes ∙ next.1 in
        leads_by _ _ (codes "given") (family_words (family_at x.givens f)) (λ e. cc) (literal (codes "given") (omega arith) refl, family_clean n.indexes (family_at x.givens f) named next.1 small)
        (λ at. rw (given_again (declared_by done) (family_at x.givens f) named free (omega (arith, counted_indexes, small)) family_sound (omega (arith, count, same, less, few))) (ap (λ y. Ok (opened name y)) (given_makes done more f all same less)))
    decl_leads done (Choose f) more all =
        let n = fold declared_with nothing_declared done in
        let next = and_parts (nat_eq f n.choices) (is_family n.indexes (family_at x.choices f)) (is_next done more (Choose f) all) in
        let same : f ≡ n.choices = eq_found f n.choices next.0 in
        let less : f < length x.choices = there done more (Choose f) all in
        let named = choice_named f less in
        let free = free_by done more (family_at x.choices f).name (ap (is_among (before done more)) (sym (choice_name f less)) ∙ ap (λ k. is_among (before done more) (get_or (families_named x.choices) k [])) same
        ∙ third_free x.indexes (families_named x.givens) (families_named x.choices) a.distinct n.indexes n.givens n.choices (omega (arith, same, less, map_count (λ (f : Family). f.name) x.choices))) in
        let few = a.few_choices in
        let count = count_choices done more (Choose f) all in
        let counted_indexes = count_indexes done more (Choose f) all in
        let small = few_indexes done more (Choose f) all in
        let family_sound : is_family (length (take n.indexes x.indexes)) (family_at x.choices f) ≡ true = ap (λ k. is_family k (family_at x.choices f)) counted_indexes ∙ next.1 in
        leads_by _ _ (codes "choose") (family_words (family_at x.choices f)) (λ e. cc) (literal (codes "choose") (omega arith) refl, family_clean n.indexes (family_at x.choices f) named next.1 small)
        (λ at. rw (choose_again (declared_by done) (family_at x.choices f) named free (omega (arith, counted_indexes, small)) family_sound (omega (arith, count, same, less, few))) (ap (λ y. Ok (opened name y)) (choose_makes done more f all same less)))
    decl_leads done (Manifest f) more all =
        let n = fold declared_with nothing_declared done in
        let next = and_parts (nat_lt f n.choices && assigns_members (family_at x.choices f)) (not (list_any (nat_eq f) n.manifests)) (is_next done more (Manifest f) all) in
        let both = and_parts (nat_lt f n.choices) (assigns_members (family_at x.choices f)) next.0 in
        let less = lt_found f n.choices both.0 in
        let count = count_choices done more (Manifest f) all in
        let small = few_choices done more (Manifest f) all in
        let assigns : assigns_members (family_at (take n.choices x.choices) f) ≡ true = ap assigns_members (take_item x.choices n.choices f no_family less) ∙ both.1 in
        let free : has_manifest done f ≡ false = (manifest_counted f nothing_declared done (not_yes (list_any (nat_eq f) n.manifests) next.1)).0 in
        leads_by _ _ (codes "manifest") (decimal f ∷ []) (λ e. cc) (literal (codes "manifest") (omega arith) refl, (decimal_clean f (omega (arith, less, small)), tt))
        (λ at. rw (manifest_again (declared_by done) f (omega (arith, less, count)) (omega (arith, count, small)) assigns free) (ap (λ y. Ok (opened name y)) (manifest_makes done more f all)))

    none_by : declared_by [] ≡ declared [] [] [] []
    none_by = refl

    all_by : declared_by x.decls ≡ x
    all_by =
        let i = a.indexes in
        let g = a.givens in
        let c = a.choices in
        same_declared x.decls x.decls _ _ _ _ _ _ refl (take_all (counted x).indexes x.indexes (omega (arith, i))) (take_all (counted x).givens x.givens (omega (arith, g))) (take_all (counted x).choices x.choices (omega (arith, c)))

    -- all declarations, after these lines
    pub declarations_arrive : (front : AllWords) → Arrives front (opened name (declared [] [] [] [])) → Arrives (front ++ decl_lines x) (opened name x)
    declarations_arrive front arrived =
        subst (λ y. Arrives (front ++ decl_lines x) (opened name y)) all_by (arrives_all (λ done. opened name (declared_by done)) (decl_line x) x.decls decl_leads front arrived)
