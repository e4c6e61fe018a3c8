-- What is read is written so.
use Rattle.std.proofs.Common.{◌≡◌, refl, sym, ◌∙◌, ap, subst, ℕ, suc, ◌+◌, ◌≤◌, List, [], ◌∷◌, ◌++◌, length, length-append, map, Bool, true, false, if◌then◌else◌, Result, Ok, Err, append_assoc, arith}
use Rattle.std.specs.Prelude.{codes, IfOk, zip}
use Rattle.std.specs.List.{join_with_byte, flat_map}
use Rattle.kts_base.specs.Reads.{Gives}
use Rattle.kts_code.specs.declared.code.Code.{Code}
use Rattle.kts_code.specs.CodeTexts.{header_words, name_words, decl_words, task_words, wake_words, stack_words, size_words, instr_words, end_words, line_text, code_lines, code_text}
use Rattle.kts_spec.specs.declared.declarations.Decl.{Decl}
use Rattle.kts_spec.specs.declared.declarations.Decl.TheVariants.{Index, Given, Choose, Manifest}
use Rattle.kts_spec.specs.declared.schema.Schema.{Schema}
use Rattle.kts_read.specs.Faults.{IsRefused, fault}
use Rattle.kts_read.specs.Goods.{Opens, Good}
use Rattle.kts_read.specs.Lines.{split, line_of, is_line, words_in, is_empty}
use Rattle.kts_read.specs.Reading.{nothing, begun, words_line, is_header, later_line, line_step, last_step, finished, read_from, code_read, draft_of}
use Rattle.kts_read.specs.Written.{AllWords, decl_line, decl_lines, task_lines, wake_lines, heads, written}
use Rattle.kts_read.specs.declared.draft.Draft.{Draft}
use Rattle.kts_read.specs.declared.draft.Part.{Part}
use Rattle.kts_read.specs.declared.draft.Part.TheVariants.{Header, Named, Declarations, Tasks, Wakes, Size, Instructions, Whole}
use Rattle.kts_read.specs.declared.fault.CodeFault.{CodeFault}
use Rattle.kts_read.specs.declared.fault.CodeKind.{CodeKind}
use Rattle.kts_read.specs.declared.fault.CodeKind.TheVariants.{BadHeader, BadLine}
use Rattle.kts_read.proofs.DraftAdds.{Adds, name_adds, declaration_adds, constraint_adds, pattern_adds, size_adds, body_adds}
use Rattle.kts_read.proofs.FamilyLines.{map_count}
use Rattle.kts_read.proofs.Joins.{Pieces, some_piece, joined_again, ended_joined}
use Rattle.kts_read.proofs.MoreDeclarations.{map_more}
use Rattle.kts_read.proofs.NumberTexts.{text_same}
use Rattle.kts_read.proofs.Tests.{if_ok, ok_same, taken, taken_same, accepted, ok_at, then_ok}

-- ---- one line

-- the line is these words, and the draft was read from the lines before and from it
pub record Steps (d : Draft) (line : List ℕ) (e : Draft) : Type 0 where
  pub words : List (List ℕ)
  pub spelled : line ≡ line_of words
  pub good : Good e.part e
  pub lines : written e e.part ≡ written d d.part ++ words ∷ []

words_of : (line : List ℕ) → line ≡ line_of (words_in line)
words_of line = sym (joined_again 32 line)

stepped : (d e : Draft) (line : List ℕ) (front : AllWords) → written d d.part ≡ front → Adds front (words_in line) e → Steps d line e
stepped d e line front same a = record {
  words = words_in line;
  spelled = words_of line;
  good = a.good;
  lines = a.lines ∙ ap (λ (l : AllWords). l ++ words_in line ∷ []) (sym same);
}

words_step : (at : ℕ) (d e : Draft) (line : List ℕ) (part : Part) → d.part ≡ part → Good part d → words_line at d (words_in line) part ≡ Ok e → Steps d line e
words_step at d e line Header is good s = absurd cc
words_step at d e line Named is good s = stepped d e line _ (ap (written d) is) (name_adds d e (words_in line) good (ok_at at _ e s))
words_step at d e line Declarations is good s = stepped d e line _ (ap (written d) is) (declaration_adds d e (words_in line) good.0 good.2 good.1 (ok_at at _ e s))
words_step at d e line Tasks is good s = stepped d e line _ (ap (written d) is) (constraint_adds d e (words_in line) good.0 good.2 good.1 (ok_at at _ e s))
words_step at d e line Wakes is good s = stepped d e line _ (ap (written d) is) (pattern_adds d e (words_in line) good.0 good.1 (ok_at at _ e s))
words_step at d e line Size is good s = stepped d e line _ (ap (written d) is) (size_adds at d e (words_in line) good.0 good.1 good.3 s)
words_step at d e line Instructions is good s = stepped d e line _ (ap (written d) is) (body_adds d e (words_in line) is good.0 good.1 good.2 (ok_at at _ e s))
words_step at d e line Whole is good s = absurd cc

later_step : (at : ℕ) (d e : Draft) (line : List ℕ) (part : Part) → d.part ≡ part → Good part d → (if is_line line then words_line at d (words_in line) part else Err (fault BadLine at)) ≡ Ok e → Steps d line e
later_step at d e line part is good s = words_step at d e line part is good (if_ok (is_line line) _ _ e s).1

step_of : (at : ℕ) (d e : Draft) (line : List ℕ) (part : Part) → d.part ≡ part → Good part d → later_line at d line part ≡ Ok e → Steps d line e
step_of at d e line Header is good s =
    let a = if_ok (is_header line) _ _ e s in
    let head : line ≡ codes "kts 1" = text_same line (codes "kts 1") a.0 in
    first d e line good head a.1
  where
    first : (d e : Draft) (line : List ℕ) → d ≡ nothing → line ≡ codes "kts 1" → taken (begun d) ≡ Ok e → Steps d line e
    first d e line good head s = rw (← taken_same _ _ s, good) (record { words = header_words; spelled = head; good = refl; lines = refl })
step_of at d e line Named is good s = later_step at d e line Named is good s
step_of at d e line Declarations is good s = later_step at d e line Declarations is good s
step_of at d e line Tasks is good s = later_step at d e line Tasks is good s
step_of at d e line Wakes is good s = later_step at d e line Wakes is good s
step_of at d e line Size is good s = later_step at d e line Size is good s
step_of at d e line Instructions is good s = later_step at d e line Instructions is good s
step_of at d e line Whole is good s = later_step at d e line Whole is good s

pub step_adds : (at : ℕ) (d e : Draft) (line : List ℕ) → Good d.part d → line_step at d line ≡ Ok e → Steps d line e
unfolding line_step
step_adds at d e line good s = step_of at d e line d.part refl good s

-- ---- how many lines

zip_long : {X Y : Type 0} (xs : List X) (ys : List Y) → length xs ≡ length ys → length (zip xs ys) ≡ length xs
zip_long [] ys e = refl
zip_long (x ∷ xs) [] e = absurd (omega (arith, e))
zip_long (x ∷ xs) (y ∷ ys) e = ap suc (zip_long xs ys (omega (arith, e)))

few_heads : (d : Draft) → Opens d → length d.declared.decls + length d.constraints.entries ≤ length (heads d)
few_heads d o =
    let c = d.constraints in
    let all = length-append (decl_lines d.declared) (task_lines d.constraints ++ wake_lines d.constraints) in
    let later = length-append (task_lines d.constraints) (wake_lines d.constraints) in
    let decls = map_count (decl_line d.declared) d.declared.decls in
    let tasks = map_count task_words (zip d.constraints.entries d.constraints.prefixes) in
    let zipped = zip_long d.constraints.entries d.constraints.prefixes o.tasks.same in
    omega (arith, all, later, decls, tasks, zipped)

-- no more declarations and constraints than lines
pub few_lines : (d : Draft) (part : Part) → Good part d → length d.declared.decls + length d.constraints.entries ≤ length (written d part)
few_lines d Header good = rw good (omega arith)
few_lines d Named good = rw good (omega arith)
few_lines d Declarations good = few_heads d good.0
few_lines d Tasks good = few_heads d good.0
few_lines d Wakes good = few_heads d good.0
few_lines d Size good = let h = few_heads d good.0 in let n = length-append (heads d) (stack_words d.stack ∷ []) in omega (arith, h, n)
few_lines d Instructions good =
    let h = few_heads d good.0 in let n = length-append (heads d) (stack_words d.stack ∷ size_words d.size ∷ map instr_words d.instrs) in omega (arith, h, n)
few_lines d Whole good =
    let h = few_heads d good.0 in let n = length-append (heads d) (stack_words d.stack ∷ size_words d.size ∷ (map instr_words d.instrs ++ end_words ∷ [])) in omega (arith, h, n)

-- ---- the end

-- what a file says: the draft is whole, and its lines are those of the file
pub record Reads (lines : List (List ℕ)) (e : Draft) : Type 0 where
  pub whole : e.part ≡ Whole
  pub good : Good Whole e
  pub spelled : lines ≡ map line_of (written e Whole) ++ [] ∷ []

empty_is : (bytes : List ℕ) → is_empty bytes ≡ true → bytes ≡ []
empty_is [] e = refl
empty_is (b ∷ bs) e = absurd cc

finish_of : (d e : Draft) (last : List ℕ) (part : Part) → d.part ≡ part → Good part d → last_step d last part ≡ Ok e → Reads (map line_of (written d part) ++ last ∷ []) e
finish_of d e last Header is good s = absurd (no_end (is_header last) BadLine BadHeader s)
  where
    no_end : (t : Bool) (a b : CodeKind) → (if t then Err a else Err b) ≡ accepted e → ⊥
    no_end true a b h = cc
    no_end false a b h = cc
finish_of d e last Named is good s = absurd cc
finish_of d e last Declarations is good s = absurd cc
finish_of d e last Tasks is good s = absurd cc
finish_of d e last Wakes is good s = absurd cc
finish_of d e last Size is good s = absurd cc
finish_of d e last Instructions is good s = absurd cc
finish_of d e last Whole is good s =
    let a = if_ok (is_empty last) _ _ e s in
    subst (Reads (map line_of (written d Whole) ++ last ∷ [])) (ok_same d e a.1)
    (record { whole = is; good = good; spelled = ap (λ (l : List ℕ). map line_of (written d Whole) ++ l ∷ []) (empty_is last a.0) })

pub finish_reads : (d e : Draft) (last : List ℕ) → Good d.part d → finished d last ≡ Ok e → Reads (map line_of (written d d.part) ++ last ∷ []) e
unfolding finished
finish_reads d e last good s = finish_of d e last d.part refl good s

pub reads_on : (lines : List (List ℕ)) (line : List ℕ) (d : Draft) (at : ℕ) (e : Draft) → Good d.part d → read_from d at (line ∷ lines) ≡ Ok e → Reads (map line_of (written d d.part) ++ line ∷ lines) e
unfolding read_from
reads_on [] line d at e good s = finish_reads d e line good (ok_at at (finished d line) e s)
reads_on (next ∷ lines) line d at e good s =
    let a = then_ok (line_step at d line) (λ after. read_from after (at + 1) (next ∷ lines)) e s in
    let one = step_adds at d a.0 line good a.1 in
    let rest = reads_on lines next a.0 (at + 1) e one.good a.2 in
    let so_far : map line_of (written a.0 a.0.part) ≡ map line_of (written d d.part) ++ line ∷ [] =
    ap (map line_of) one.lines ∙ map_more line_of (written d d.part) one.words ∙ ap (λ (l : List ℕ). map line_of (written d d.part) ++ l ∷ []) (sym one.spelled) in
    subst (λ (ls : List (List ℕ)). Reads ls e) (ap (λ (ls : List (List ℕ)). ls ++ next ∷ lines) so_far ∙ append_assoc (map line_of (written d d.part)) (line ∷ []) (next ∷ lines)) rest

all_reads : (lines : List (List ℕ)) (e : Draft) → Pieces lines → read_from nothing 1 lines ≡ Ok e → Reads lines e
all_reads lines e some s = rw some.2 (reads_on some.1 some.0 nothing 1 e refl (rw some.2 at s))

-- what is read is whole
pub reading_whole : (bytes : List ℕ) (e : Draft) → code_read bytes ≡ Ok e → Reads (split 10 bytes) e
unfolding code_read
reading_whole bytes e s = all_reads (split 10 bytes) e (some_piece 10 bytes) s

-- ---- the lines of code

lines_same : (schema : Schema) (decls : List Decl) → map (decl_line (record { decls = schema.decls; indexes = schema.indexes; givens = schema.givens; choices = schema.choices })) decls ≡ map (decl_words schema) decls
unfolding decl_line
lines_same schema [] = refl
lines_same schema (Index i ∷ decls) = ap (λ (ls : AllWords). decl_words schema (Index i) ∷ ls) (lines_same schema decls)
lines_same schema (Given f ∷ decls) = ap (λ (ls : AllWords). decl_words schema (Given f) ∷ ls) (lines_same schema decls)
lines_same schema (Choose f ∷ decls) = ap (λ (ls : AllWords). decl_words schema (Choose f) ∷ ls) (lines_same schema decls)
lines_same schema (Manifest f ∷ decls) = ap (λ (ls : AllWords). decl_words schema (Manifest f) ∷ ls) (lines_same schema decls)

pub whole_lines : (code : Code) → written (draft_of code) Whole ≡ code_lines code
unfolding code_lines
whole_lines code =
    let decls = map (decl_words code.schema) code.schema.decls in
    let tasks = map task_words (zip code.entries code.schema.tasks) in
    let wakes = map wake_words code.index in
    let rest = stack_words code.stack ∷ size_words (length code.instrs) ∷ (map instr_words code.instrs ++ end_words ∷ []) in
    ap (λ (ls : AllWords). header_words ∷ name_words code.schema.name ∷ ls)
    (ap (λ (ls : AllWords). (ls ++ (tasks ++ wakes)) ++ rest) (lines_same code.schema code.schema.decls)
    ∙ append_assoc decls (tasks ++ wakes) rest ∙ ap (λ (ls : AllWords). decls ++ ls) (append_assoc tasks wakes rest))

-- what is read is written so
pub found : (bytes : List ℕ) (code : Code) → code_read bytes ≡ Ok (draft_of code) → bytes ≡ code_text code
unfolding code_text
found bytes code s =
    let r = reading_whole bytes (draft_of code) s in
    sym (joined_again 10 bytes) ∙ ap (join_with_byte 10) r.spelled ∙ ended_joined (written (draft_of code) Whole) ∙ ap (flat_map line_text) (whole_lines code)

pub found_from : (bytes : List ℕ) (result : Result Code CodeFault) → Gives IsRefused draft_of result (code_read bytes) → IfOk result (λ code. bytes ≡ code_text code)
found_from bytes (Ok code) g = found bytes code g
found_from bytes (Err f) g = tt
