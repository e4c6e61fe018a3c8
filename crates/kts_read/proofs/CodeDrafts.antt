-- The text of code is read as this code.
use Rattle.std.proofs.Common.{◌≡◌, refl, sym, ◌∙◌, ap, subst, ℕ, ◌^◌, ◌≤◌, List, [], ◌∷◌, ◌++◌, length, map, fold, true, not, ◌&&◌, nat_eq, nat_lt, nat_le, Option, None, Some, Result, Ok, Err, arith, inl, inr}
use Rattle.std.specs.Prelude.{MatchResult}
use Rattle.std.specs.List.{list_all, list_any, flat_map}
use Rattle.std.proofs.Math.Bool.{Bool-set}
use Rattle.std.proofs.lemmas.Bool.{and_parts, and_from}
use Rattle.std.proofs.lemmas.Bool.Decides.{nat_tests}
use Rattle.kts_base.specs.Limits.{most_indexes, most_givens, most_choices, most_instructions, most_stack, most_number}
use Rattle.kts_base.specs.Reads.{Gives}
use Rattle.kts_code.specs.declared.code.Code.{Code}
use Rattle.kts_code.specs.declared.instructions.Instr.{Instr}
use Rattle.kts_code.specs.CodeTexts.{line_text, code_lines, code_text}
use Rattle.kts_code.specs.WellFormed.{is_pattern, is_instr, are_entries, is_code}
use Rattle.kts_spec.specs.Names.{is_language_name, is_distinct}
use Rattle.kts_spec.specs.Schemas.{DeclaredCounts, nothing_declared, declared_with, is_declaration, are_declarations, has_counts, declared_names, family_at, no_family, is_family, assigns_members, is_prefix, is_schema}
use Rattle.kts_spec.specs.declared.declarations.Decl.{Decl}
use Rattle.kts_spec.specs.declared.declarations.Decl.TheVariants.{Index, Given, Choose, Manifest}
use Rattle.kts_spec.specs.declared.declarations.Family.{Family}
use Rattle.kts_spec.specs.declared.schema.Schema.{Schema}
use Rattle.kts_write.specs.Declarations.{IsWithin}
use Rattle.kts_write.proofs.DeclaredThere.{are_within}
use Rattle.kts_read.specs.Faults.{IsRefused}
use Rattle.kts_read.specs.Goods.{AreDeclared, Good, instr_fits}
use Rattle.kts_read.specs.Lines.{split, line_of}
use Rattle.kts_read.specs.Reading.{nothing, finished, read_from, code_read, draft_of}
use Rattle.kts_read.specs.Written.{written}
use Rattle.kts_read.specs.declared.declarations.Declared.{Declared}
use Rattle.kts_read.specs.declared.draft.Draft.{Draft}
use Rattle.kts_read.specs.declared.draft.Part.TheVariants.{Whole}
use Rattle.kts_read.specs.declared.fault.CodeFault.{CodeFault}
use Rattle.kts_read.proofs.Again.{arrives}
use Rattle.kts_read.proofs.Found.{whole_lines}
use Rattle.kts_read.proofs.InstrFits.{counts, operands_fit}
use Rattle.kts_read.proofs.Joins.{split_ended}
use Rattle.kts_read.proofs.MoreDeclarations.{item_front}
use Rattle.kts_read.proofs.Tests.{eq_found, lt_found, le_test}

le_found : (a b : ℕ) → nat_le a b ≡ true → a ≤ b
le_found a b h = grind (arith, nat_tests)

-- ---- declarations, whatever families follow

declaration_kept : (n : ℕ) (gs cs hs es : List Family) (s : DeclaredCounts) (decl : Decl) → IsWithin n (length gs) (length cs) decl → s.choices ≤ length cs → is_declaration gs cs s decl ≡ true → is_declaration (gs ++ hs) (cs ++ es) s decl ≡ true
declaration_kept n gs cs hs es s (Index i) h few d = d
declaration_kept n gs cs hs es s (Given f) h few d = ap (λ (g : Family). nat_eq f s.givens && is_family s.indexes g) (item_front gs hs f no_family h) ∙ d
declaration_kept n gs cs hs es s (Choose f) h few d = ap (λ (g : Family). nat_eq f s.choices && is_family s.indexes g) (item_front cs es f no_family h) ∙ d
declaration_kept n gs cs hs es s (Manifest f) h few d =
    let one = and_parts (nat_lt f s.choices && assigns_members (family_at cs f)) (not (list_any (nat_eq f) s.manifests)) d in
    let less = lt_found f s.choices (and_parts (nat_lt f s.choices) (assigns_members (family_at cs f)) one.0).0 in
    ap (λ (g : Family). nat_lt f s.choices && assigns_members g && not (list_any (nat_eq f) s.manifests)) (item_front cs es f no_family (omega (arith, less, few))) ∙ d

module _ (n : ℕ) (gs cs hs es : List Family) where
  are_kept : (s : DeclaredCounts) (ds : List Decl) → are_declarations gs cs s ds ≡ true → (fold declared_with s ds).indexes ≤ n → (fold declared_with s ds).givens ≤ length gs → (fold declared_with s ds).choices ≤ length cs
      → are_declarations (gs ++ hs) (cs ++ es) s ds ≡ true
  are_kept s [] h i g c = refl
  are_kept s (d ∷ ds) h i g c =
      let both = and_parts (is_declaration gs cs s d) (are_declarations gs cs (declared_with s d) ds) h in
      let w = are_within gs cs n (length gs) (length cs) s (d ∷ ds) h (record { indexes = i; givens = g; choices = c }) in
      and_from (is_declaration (gs ++ hs) (cs ++ es) s d) (are_declarations (gs ++ hs) (cs ++ es) (declared_with s d) ds) (declaration_kept n gs cs hs es s d w.0.0 w.1.choices both.0)
      (are_kept (declared_with s d) ds both.1 i g c)

-- ---- the draft of code

module _ (schema : Schema) where
  abbrev declared : Declared
  declared = record { decls = schema.decls; indexes = schema.indexes; givens = schema.givens; choices = schema.choices }

  abbrev last : DeclaredCounts
  last = fold declared_with nothing_declared schema.decls

  abbrev own : List (List ℕ)
  own = declared_names schema.indexes schema.givens schema.choices

  -- what a schema keeps
  record Kept : Type 0 where
    name : is_language_name schema.name ≡ true
    indexes : nat_le (length schema.indexes) most_indexes ≡ true
    givens : nat_le (length schema.givens) most_givens ≡ true
    choices : nat_le (length schema.choices) most_choices ≡ true
    names : list_all is_language_name own ≡ true
    distinct : is_distinct own ≡ true
    sound : are_declarations schema.givens schema.choices nothing_declared schema.decls ≡ true
    counts : has_counts schema.indexes schema.givens schema.choices last ≡ true
    prefixes : list_all (is_prefix (length schema.indexes)) schema.tasks ≡ true

  kept : Kept
  unfolding is_schema
  kept =
      let nine = and_parts _ (list_all (is_prefix (length schema.indexes)) schema.tasks) schema.is_schema in
      let eight = and_parts _ (nat_lt (length schema.tasks) (2 ^ 32)) nine.0 in
      let seven = and_parts _ (has_counts schema.indexes schema.givens schema.choices last) eight.0 in
      let six = and_parts _ (are_declarations schema.givens schema.choices nothing_declared schema.decls) seven.0 in
      let five = and_parts _ (is_distinct own) six.0 in
      let four = and_parts _ (list_all is_language_name own) five.0 in
      let three = and_parts _ (nat_le (length schema.choices) most_choices) four.0 in
      let two = and_parts _ (nat_le (length schema.givens) most_givens) three.0 in
      let one = and_parts (is_language_name schema.name) (nat_le (length schema.indexes) most_indexes) two.0 in
      record { name = one.0; indexes = one.1; givens = two.1; choices = three.1; names = four.1; distinct = five.1; sound = six.1; counts = seven.1; prefixes = nine.1 }

  are_declared : AreDeclared declared
  are_declared =
      let two = and_parts (nat_eq last.indexes (length schema.indexes) && nat_eq last.givens (length schema.givens)) (nat_eq last.choices (length schema.choices)) kept.counts in
      let one = and_parts (nat_eq last.indexes (length schema.indexes)) (nat_eq last.givens (length schema.givens)) two.0 in
      let i = eq_found last.indexes (length schema.indexes) one.0 in
      let g = eq_found last.givens (length schema.givens) one.1 in
      let c = eq_found last.choices (length schema.choices) two.1 in
      record {
        few_indexes = le_found (length schema.indexes) most_indexes kept.indexes;
        few_givens = le_found (length schema.givens) most_givens kept.givens;
        few_choices = le_found (length schema.choices) most_choices kept.choices;
        named = kept.names;
        distinct = kept.distinct;
        declared = (λ hs es. are_kept (length schema.indexes) schema.givens schema.choices hs es nothing_declared schema.decls kept.sound (omega (arith, i)) (omega (arith, g)) (omega (arith, c)));
        indexes = i;
        givens = g;
        choices = c;
      }

-- places in code are numbers of a file
small_entries : (entries : List ℕ) (size : ℕ) → size ≤ most_instructions → list_all (λ to. nat_lt to size) entries ≡ true → list_all (λ to. nat_le to most_number) entries ≡ true
small_entries [] size few h = refl
small_entries (x ∷ xs) size few h =
    let both = and_parts (nat_lt x size) (list_all (λ to. nat_lt to size) xs) h in
    let less = lt_found x size both.0 in
    and_from (nat_le x most_number) (list_all (λ to. nat_le to most_number) xs) (le_test x most_number (omega (arith, less, few))) (small_entries xs size few both.1)

all_fit_again : (schema : Schema) (places : ℕ) (instrs : List Instr) → list_all (is_instr schema places) instrs ≡ true → list_all (instr_fits (counts schema places)) instrs ≡ true
all_fit_again schema places [] h = refl
all_fit_again schema places (i ∷ is) h =
    let both = and_parts (is_instr schema places i) (list_all (is_instr schema places) is) h in
    and_from (instr_fits (counts schema places) i) (list_all (instr_fits (counts schema places)) is) (operands_fit schema places i both.0) (all_fit_again schema places is both.1)

pub code_good : (code : Code) → Good Whole (draft_of code)
unfolding is_code
code_good code =
    let schema = code.schema in
    let n = length code.instrs in
    let eight = and_parts _ (list_all (is_instr code.schema (length code.instrs)) code.instrs) code.is_code in
    let seven = and_parts _ (list_all (is_pattern code.schema) code.index) eight.0 in
    let six = and_parts _ (are_entries code.schema (length code.instrs) code.entries) seven.0 in
    let five = and_parts _ (nat_le (length code.index) most_instructions) six.0 in
    let four = and_parts _ (nat_le (length code.schema.tasks) most_instructions) five.0 in
    let three = and_parts _ (nat_le code.stack most_stack) four.0 in
    let two = and_parts _ (nat_le 1 code.stack) three.0 in
    let one = and_parts (nat_le 1 (length code.instrs)) (nat_le (length code.instrs) most_instructions) two.0 in
    let entries = and_parts (nat_eq (length code.entries) (length code.schema.tasks)) (list_all (λ to. nat_lt to (length code.instrs)) code.entries) six.1 in
    let small = le_found (length code.instrs) most_instructions one.1 in (
      record {
        name = code.schema.name;
        named = refl;
        is_name = (kept code.schema).name;
        declared = are_declared code.schema;
        tasks = record {
          same = eq_found (length code.entries) (length code.schema.tasks) entries.0;
          small = small_entries code.entries (length code.instrs) small entries.1;
          few = le_found (length code.schema.tasks) most_instructions four.1;
          prefixes = (kept code.schema).prefixes;
        };
        patterns = record { few = le_found (length code.index) most_instructions five.1; fit = seven.1 };
      },
      record { some = le_found 1 code.stack two.1; few = le_found code.stack most_stack three.1 },
      record { some = le_found 1 (length code.instrs) one.0; small = small; placed = entries.1; few = omega arith; fit = all_fit_again code.schema (length code.instrs) code.instrs eight.1 },
      refl,
    )

-- ---- the text is read

pub text_read : (code : Code) → code_read (code_text code) ≡ Ok (draft_of code)
unfolding code_read code_text read_from finished
text_read code =
    let d = draft_of code in
    let a = arrives (draft_of code) (code_good code) in
    let pieces : split 10 (flat_map line_text (code_lines code)) ≡ map line_of (written (draft_of code) Whole) ++ [] ∷ [] =
    ap (λ lines. split 10 (flat_map line_text lines)) (sym (whole_lines code)) ∙ split_ended (written (draft_of code) Whole) a.whole in
    ap (read_from nothing 1) pieces ∙ a.reads ([] ∷ []) ([], [], refl)

-- ---- code is its draft

module _ (d : Draft) (name : List ℕ) where
  abbrev schema_in : is_schema name d.declared.decls d.declared.indexes d.declared.givens d.declared.choices d.constraints.prefixes ≡ true → Schema
  schema_in s = record { name = name; decls = d.declared.decls; indexes = d.declared.indexes; givens = d.declared.givens; choices = d.declared.choices; tasks = d.constraints.prefixes; is_schema = s }

  abbrev code_in : (s : is_schema name d.declared.decls d.declared.indexes d.declared.givens d.declared.choices d.constraints.prefixes ≡ true) → is_code (schema_in s) d.constraints.entries d.constraints.patterns d.stack d.instrs ≡ true → Code
  code_in s c = record { schema = schema_in s; entries = d.constraints.entries; index = d.constraints.patterns; stack = d.stack; instrs = d.instrs; is_code = c }

  one_code : (s t : is_schema name d.declared.decls d.declared.indexes d.declared.givens d.declared.choices d.constraints.prefixes ≡ true) (c : is_code (schema_in s) d.constraints.entries d.constraints.patterns d.stack d.instrs ≡ true)
      (e : is_code (schema_in t) d.constraints.entries d.constraints.patterns d.stack d.instrs ≡ true) → code_in s c ≡ code_in t e
  one_code s t c e =
      subst (λ (t : is_schema name d.declared.decls d.declared.indexes d.declared.givens d.declared.choices d.constraints.prefixes ≡ true).
      (e : is_code (schema_in t) d.constraints.entries d.constraints.patterns d.stack d.instrs ≡ true) → code_in s c ≡ code_in t e)
      (Bool-set _ _ s t) (λ e. ap (code_in s) (Bool-set _ _ c e)) e

-- codes of one draft are one
abbrev IsOfDraft : Code → Draft → List ℕ → Type 0
IsOfDraft a d name = (s : is_schema name d.declared.decls d.declared.indexes d.declared.givens d.declared.choices d.constraints.prefixes ≡ true) (c : is_code (schema_in d name s) d.constraints.entries d.constraints.patterns d.stack d.instrs ≡ true) → a ≡ code_in d name s c

name_of : Option (List ℕ) → List ℕ
name_of None = []
name_of (Some name) = name

pub one_of_draft : (a b : Code) → draft_of a ≡ draft_of b → a ≡ b
unfolding name_of
one_of_draft a b same =
    let names : a.schema.name ≡ b.schema.name = ap (λ (d : Draft). name_of d.name) same in
    let own : IsOfDraft a (draft_of a) a.schema.name = λ s c. one_code (draft_of a) a.schema.name a.schema.is_schema s a.is_code c in
    subst (λ (d : Draft). IsOfDraft a d b.schema.name) same (subst (IsOfDraft a (draft_of a)) names own) b.schema.is_schema b.is_code

abbrev given : Code → Result Draft CodeFault
given code = Ok (draft_of code)

-- a text that is code's is read as this code
pub only_from : (bytes : List ℕ) (result : Result Code CodeFault) (code : Code) → Gives IsRefused draft_of result (code_read bytes) → bytes ≡ code_text code → MatchResult result (λ read. read ≡ code) IsRefused
only_from bytes (Ok read) code g is = let same : given read ≡ given code = sym g ∙ ap code_read is ∙ text_read code in one_of_draft read code cc
only_from bytes (Err f) code (inl refused) is = refused
only_from bytes (Err f) code (inr fails) is = let read = ap code_read is ∙ text_read code in absurd cc
