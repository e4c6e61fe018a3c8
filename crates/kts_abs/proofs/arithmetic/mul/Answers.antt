use Rattle.std.proofs.Common.{◌≡◌, refl, ap, ◌∙◌, arith, ◌*ℤ◌, to_z, of_z}
use Rattle.std.proofs.lemmas.Int.{ints}
use mir.Syntax.{w64, w128}
use Rattle.kts_abs.specs.Windows.{fitted, product_of}
use Rattle.kts_abs.proofs.Fitting.{kept, least_le}
use Rattle.kts_abs.proofs.arithmetic.mul.Goals as goal

pub fit-requires : goal.fit-requires
fit-requires c =
    rw (kept c.least_in.result c.least_in.type_inv, kept c.greatest_in.result c.greatest_in.type_inv, c.least_in.ensures, c.greatest_in.ensures) (least_le _ _ _ _)

ends : (c : goal.After-fit) → (to_z w128 (of_z w128 c.least_in.result), to_z w128 (of_z w128 c.greatest_in.result)) ≡ product_of c.args.a.now c.args.b.now
unfolding product_of
ends c =
    let al : to_z w64 (of_z w64 c.lo.result) ≡ c.args.a.now.0 = omega (arith, ints) in
    let al' : to_z w64 (of_z w64 c.lo-3.result) ≡ c.args.a.now.0 = omega (arith, ints) in
    let ah : to_z w64 (of_z w64 c.hi-2.result) ≡ c.args.a.now.1 = omega (arith, ints) in
    let ah' : to_z w64 (of_z w64 c.hi-3.result) ≡ c.args.a.now.1 = omega (arith, ints) in
    let bl : to_z w64 (of_z w64 c.lo-2.result) ≡ c.args.b.now.0 = omega (arith, ints) in
    let bl' : to_z w64 (of_z w64 c.lo-4.result) ≡ c.args.b.now.0 = omega (arith, ints) in
    let bh : to_z w64 (of_z w64 c.hi.result) ≡ c.args.b.now.1 = omega (arith, ints) in
    let bh' : to_z w64 (of_z w64 c.hi-4.result) ≡ c.args.b.now.1 = omega (arith, ints) in
    let p : to_z w128 (of_z w128 c.times-p.result) ≡ c.args.a.now.0 *ℤ c.args.b.now.0 = rw (kept c.times-p.result c.times-p.type_inv, c.times-p.ensures, al, bl) refl in
    let q : to_z w128 (of_z w128 c.times-q.result) ≡ c.args.a.now.0 *ℤ c.args.b.now.1 = rw (kept c.times-q.result c.times-q.type_inv, c.times-q.ensures, al', bh) refl in
    let r : to_z w128 (of_z w128 c.times-r.result) ≡ c.args.a.now.1 *ℤ c.args.b.now.0 = rw (kept c.times-r.result c.times-r.type_inv, c.times-r.ensures, ah, bl') refl in
    let s : to_z w128 (of_z w128 c.times-s.result) ≡ c.args.a.now.1 *ℤ c.args.b.now.1 = rw (kept c.times-s.result c.times-s.type_inv, c.times-s.ensures, ah', bh') refl in
    rw (kept c.least_in.result c.least_in.type_inv, kept c.greatest_in.result c.greatest_in.type_inv, c.least_in.ensures, c.greatest_in.ensures, p, q, r, s) refl

pub returns : goal.returns
returns c = c.fit.ensures ∙ ap fitted (ends c)
