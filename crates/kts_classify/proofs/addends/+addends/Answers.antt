use Rattle.std.proofs.Common.{Bool, Bor, length, take, drop, ◌-◌, ◌≡◌, sym, ap, ◌∙◌, [], ◌++◌, map, not, append_assoc}
use Rattle.std.specs.Prelude.{flat_map}
use Rattle.std.proofs.lemmas.List.{append-nil, map-append}
use Rattle.std.proofs.lemmas.Result.{on_ok_weaker}
use Rattle.kts_spec.specs.declared.tree.Term.{Term}
use Rattle.kts_spec.specs.declared.tree.Term.TheVariants as term
use Rattle.kts_classify.specs.SignedTerms.{addend_of, signed_addends}
use Rattle.kts_classify.proofs.AddendForms.{no_items, split_first, signed-Add, signed-Sub-none, signed-Sub, signed_one}
use Rattle.kts_classify.proofs.addends.+addends.Goals as goal

pub add_addends-returns-in-Add : goal.add_addends-returns-in-Add
add_addends-returns-in-Add t c = rw (c.in-Add.is, signed-Add, ← c.as_slice.ensures) c.add_each.ensures

pub add_addends-returns-in-empty : goal.add_addends-returns-in-empty
add_addends-returns-in-empty t c =
    let none = sym c.as_slice-in-Sub.ensures ∙ no_items c.as_slice-in-Sub.result.now c.in-empty.len_below in
    let e : signed_addends c.args.minus c.args.term.now ≡ [] = ap (signed_addends c.args.minus) (c.in-Sub.is ∙ ap term.Sub none) ∙ signed-Sub-none c.args.minus in
    rw e (sym (append-nil _))

pub add_addends-returns-in_ok-add_addends-in-len1-up : goal.add_addends-returns-in_ok-add_addends-in-len1-up
add_addends-returns-in_ok-add_addends-in-len1-up t c =
    let f = λ (t : Bool × Bor Term). addend_of t.0 t.1.now in
    let m = c.args.minus in
    let xs = c.as_slice-in-Sub.result.now in
    let first = c.first-item.result in
    let others = take (length xs - 1) (drop 1 xs) in
    let whole = sym c.as_slice-in-Sub.ensures ∙ split_first xs first c.in-len1-up.len_at_least c.first-item.is in
    let signed : signed_addends m c.args.term.now ≡ signed_addends m first ++ flat_map (signed_addends (not m)) others = ap (signed_addends m) (c.in-Sub.is ∙ ap term.Sub whole) ∙ signed-Sub m first others in
    let both : map f c.add_addends.new.sum ++ flat_map (signed_addends (not m)) others ≡ map f c.args.sum.now ++ signed_addends m c.args.term.now =
    ap (λ l. l ++ flat_map (signed_addends (not m)) others) c.in_ok-add_addends-in-len1-up.ensures ∙ append_assoc (map f c.args.sum.now) (signed_addends m first) (flat_map (signed_addends (not m)) others)
    ∙ ap (λ l. map f c.args.sum.now ++ l) (sym signed) in
    on_ok_weaker c.add_each-in-len1-up.result (λ e. e ∙ both) c.add_each-in-len1-up.ensures

pub add_addends-returns-in_default : goal.add_addends-returns-in_default
add_addends-returns-in_default t c =
    let f = λ (t : Bool × Bor Term). addend_of t.0 t.1.now in
    let one = signed_one c.args.minus c.args.term.now (record { no_sum = c.in_default.not-Add; no_difference = c.in_default.not-Sub }) in
    on_ok_weaker c.push.result (λ e. ap (map f) e ∙ map-append f c.args.sum.now _ ∙ ap (λ l. map f c.args.sum.now ++ l) (sym one)) c.push.ensures.ok
