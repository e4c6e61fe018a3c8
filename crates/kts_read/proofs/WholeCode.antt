-- A draft that is whole is code.
use Rattle.std.proofs.Common.{◌≡◌, refl, sym, ◌∙◌, ap, ℕ, zero, suc, ◌^◌, ◌<◌, ◌≤◌, List, [], ◌∷◌, ◌++◌, append-nil, length, fold, true, ◌&&◌, nat_lt, nat_le, nat_eq, Some, Result, Ok, arith}
use Rattle.std.specs.Prelude.{All}
use Rattle.std.specs.List.{list_all}
use Rattle.std.proofs.lemmas.Bool.{and_parts, and_from}
use Rattle.kts_base.specs.Limits.{most_indexes, most_givens, most_choices, most_instructions, most_stack}
use Rattle.kts_code.specs.declared.instructions.Instr.{Instr}
use Rattle.kts_code.specs.WellFormed.{is_pattern, is_instr, are_entries, is_code}
use Rattle.kts_index.specs.declared.pattern.Pattern.{Pattern}
use Rattle.kts_spec.specs.Names.{is_language_name, is_distinct}
use Rattle.kts_spec.specs.Schemas.{nothing_declared, declared_with, are_declarations, has_counts, declared_names, is_prefix, is_schema}
use Rattle.kts_spec.specs.declared.declarations.Family.{Family}
use Rattle.kts_spec.specs.declared.schema.Schema.{Schema}
use Rattle.kts_read.specs.Goods.{Opens, Good, instr_fits, fits_pattern}
use Rattle.kts_read.specs.declared.draft.Draft.{Draft}
use Rattle.kts_read.specs.declared.draft.Part.TheVariants.{Whole}
use Rattle.kts_read.specs.declared.fault.CodeKind.{CodeKind}
use Rattle.kts_read.specs.declared.operands.Counts.{Counts}
use Rattle.kts_read.proofs.InstrFits.{counts, well_formed}
use Rattle.kts_read.proofs.Tests.{lt_test, le_test, eq_test, lt_found}

pub schema_of : (d : Draft) (name : List ℕ) → Opens d → d.name ≡ Some name → is_schema name d.declared.decls d.declared.indexes d.declared.givens d.declared.choices d.constraints.prefixes ≡ true
unfolding is_schema
schema_of d name o named =
    let x = d.declared in
    let own = declared_names d.declared.indexes d.declared.givens d.declared.choices in
    let a = o.declared in
    let few = o.tasks.few in
    let is_name : is_language_name name ≡ true = ap is_language_name (name_same o.name name (sym o.named ∙ named)) ∙ o.is_name in
    let declared : are_declarations d.declared.givens d.declared.choices nothing_declared d.declared.decls ≡ true =
    ap (λ gs. are_declarations gs d.declared.choices nothing_declared d.declared.decls) (sym (append-nil d.declared.givens))
    ∙ ap (λ cs. are_declarations (d.declared.givens ++ []) cs nothing_declared d.declared.decls) (sym (append-nil d.declared.choices)) ∙ a.declared [] [] in
    let last = fold declared_with nothing_declared d.declared.decls in
    let counts : has_counts d.declared.indexes d.declared.givens d.declared.choices last ≡ true =
    and_from (nat_eq last.indexes (length d.declared.indexes) && nat_eq last.givens (length d.declared.givens)) (nat_eq last.choices (length d.declared.choices))
    (and_from (nat_eq last.indexes (length d.declared.indexes)) (nat_eq last.givens (length d.declared.givens)) (eq_test last.indexes (length d.declared.indexes) a.indexes) (eq_test last.givens (length d.declared.givens) a.givens))
    (eq_test last.choices (length d.declared.choices) a.choices) in
    let one = and_from (is_language_name name) (nat_le (length d.declared.indexes) most_indexes) is_name (le_test (length d.declared.indexes) most_indexes a.few_indexes) in
    let two = and_from _ (nat_le (length d.declared.givens) most_givens) one (le_test (length d.declared.givens) most_givens a.few_givens) in
    let three = and_from _ (nat_le (length d.declared.choices) most_choices) two (le_test (length d.declared.choices) most_choices a.few_choices) in
    let four = and_from _ (list_all is_language_name own) three a.named in
    let five = and_from _ (is_distinct own) four a.distinct in
    let six = and_from _ (are_declarations d.declared.givens d.declared.choices nothing_declared d.declared.decls) five declared in
    let seven = and_from _ (has_counts d.declared.indexes d.declared.givens d.declared.choices last) six counts in
    let eight = and_from _ (nat_lt (length d.constraints.prefixes) (2 ^ 32)) seven (lt_test (length d.constraints.prefixes) (2 ^ 32) (omega (arith, few))) in
    and_from _ (list_all (is_prefix (length d.declared.indexes)) d.constraints.prefixes) eight o.tasks.prefixes
  where
    name_same : (a b : List ℕ) → Some a ≡ Some b → b ≡ a
    name_same a b e = cc

all_instrs : (schema : Schema) (places : ℕ) (instrs : List Instr) → list_all (instr_fits (counts schema places)) instrs ≡ true → list_all (is_instr schema places) instrs ≡ true
all_instrs schema places [] h = refl
all_instrs schema places (i ∷ is) h =
    let both = and_parts (instr_fits (counts schema places) i) (list_all (instr_fits (counts schema places)) is) h in
    and_from (is_instr schema places i) (list_all (is_instr schema places) is) (well_formed schema places i both.0) (all_instrs schema places is both.1)

-- a schema with what the draft has
pub record IsOf (d : Draft) (schema : Schema) : Type 0 where
  pub indexes : schema.indexes ≡ d.declared.indexes
  pub givens : schema.givens ≡ d.declared.givens
  pub choices : schema.choices ≡ d.declared.choices
  pub tasks : schema.tasks ≡ d.constraints.prefixes

abbrev counted_by : ℕ → ℕ → ℕ → ℕ → Counts
counted_by l i g c = record { labels = l; indexes = i; givens = g; choices = c }

same_counts : (l m i j g h c e : ℕ) → l ≡ m → i ≡ j → g ≡ h → c ≡ e → counted_by l i g c ≡ counted_by m j h e
same_counts l m i j g h c e p q r s = rw (p, q, r, s) refl

pub code_of : (d : Draft) (schema : Schema) → Good Whole d → IsOf d schema → is_code schema d.constraints.entries d.constraints.patterns d.stack d.instrs ≡ true
unfolding is_code
code_of d schema g like =
    let o = g.0 in
    let s = g.2 in
    let n = g.3 in
    let few = s.small in
    let some = s.some in
    let count : length schema.tasks ≡ length d.constraints.prefixes = ap length like.tasks in
    let tasks = o.tasks.few in
    let same = o.tasks.same in
    let patterns : list_all (is_pattern schema) d.constraints.patterns ≡ true =
    ap (λ (cs : List Family). list_all (fits_pattern cs schema.tasks) d.constraints.patterns) like.choices
    ∙ ap (λ (ts : List (List ℕ)). list_all (fits_pattern d.declared.choices ts) d.constraints.patterns) like.tasks ∙ o.patterns.fit in
    let fit : list_all (instr_fits (counts schema (length d.instrs))) d.instrs ≡ true =
    ap (λ k. list_all (instr_fits k) d.instrs) (same_counts _ _ _ _ _ _ _ _ n (ap length like.indexes) (ap length like.givens) (ap length like.choices)) ∙ s.fit in
    let entries : list_all (λ to. nat_lt to (length d.instrs)) d.constraints.entries ≡ true = rw n s.placed in
    let one = and_from (nat_le 1 (length d.instrs)) (nat_le (length d.instrs) most_instructions) (le_test 1 (length d.instrs) (omega (arith, n, some))) (le_test (length d.instrs) most_instructions (omega (arith, n, few))) in
    let two = and_from _ (nat_le 1 d.stack) one (le_test 1 d.stack g.1.some) in
    let three = and_from _ (nat_le d.stack most_stack) two (le_test d.stack most_stack g.1.few) in
    let four = and_from _ (nat_le (length schema.tasks) most_instructions) three (le_test (length schema.tasks) most_instructions (omega (arith, count, tasks))) in
    let five = and_from _ (nat_le (length d.constraints.patterns) most_instructions) four (le_test (length d.constraints.patterns) most_instructions o.patterns.few) in
    let six = and_from _ (are_entries schema (length d.instrs) d.constraints.entries) five
    (and_from (nat_eq (length d.constraints.entries) (length schema.tasks)) (list_all (λ to. nat_lt to (length d.instrs)) d.constraints.entries) (eq_test (length d.constraints.entries) (length schema.tasks) (same ∙ sym count)) entries) in
    let seven = and_from _ (list_all (is_pattern schema) d.constraints.patterns) six patterns in
    and_from _ (list_all (is_instr schema (length d.instrs)) d.instrs) seven (all_instrs schema (length d.instrs) d.instrs fit)

-- every body begins at a place that fits
pub small_entries : (entries : List ℕ) (size : ℕ) → size ≤ most_instructions → list_all (λ to. nat_lt to size) entries ≡ true → All (λ entry. entry < 2 ^ 32) entries
small_entries [] size h e k d l = absurd (omega (arith, l))
small_entries (x ∷ xs) size h e zero d l = let b = lt_found x size (and_parts (nat_lt x size) (list_all (λ to. nat_lt to size) xs) e).0 in omega (arith, b, h)
small_entries (x ∷ xs) size h e (suc k) d l = small_entries xs size h (and_parts (nat_lt x size) (list_all (λ to. nat_lt to size) xs) e).1 k d (omega (arith, l))

-- ---- the parts, as code takes them

abbrev listed : List ℕ → Result (List ℕ) CodeKind
listed entries = Ok entries

pub entries_same : (a b c : List ℕ) → listed a ≡ Ok b → a ≡ c → b ≡ c
entries_same a b c h k = let s : a ≡ b = cc in sym s ∙ k

pub code_parts : (d : Draft) (schema : Schema) (entries : List ℕ) (index : List Pattern) → Good Whole d → IsOf d schema → entries ≡ d.constraints.entries → index ≡ d.constraints.patterns → is_code schema entries index d.stack d.instrs ≡ true
code_parts d schema entries index g like e f =
    ap (λ (es : List ℕ). is_code schema es index d.stack d.instrs) e ∙ ap (λ (ps : List Pattern). is_code schema d.constraints.entries ps d.stack d.instrs) f ∙ code_of d schema g like
