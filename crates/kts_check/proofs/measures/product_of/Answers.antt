use Rattle.std.proofs.Common.{◌≡◌, refl, arith, ◌*ℤ◌, to_z, of_z}
use Rattle.std.proofs.lemmas.Int.{ints}
use mir.Syntax.{w64, w128}
use Rattle.kts_check.proofs.MeasureLemmas.{kept}
use Rattle.kts_check.proofs.measures.product_of.Goals as goal

pub returns : goal.returns
returns c =
    let a : to_z w64 (of_z w64 c.args.v.now.0) ≡ c.args.v.now.0 = omega (arith, ints) in
    let b : to_z w64 (of_z w64 c.args.v.now.1) ≡ c.args.v.now.1 = omega (arith, ints) in
    let d : to_z w64 (of_z w64 c.args.w.now.0) ≡ c.args.w.now.0 = omega (arith, ints) in
    let e : to_z w64 (of_z w64 c.args.w.now.1) ≡ c.args.w.now.1 = omega (arith, ints) in
    let p : to_z w128 (of_z w128 c.times-p.result) ≡ c.args.v.now.0 *ℤ c.args.w.now.0 = rw (kept c.times-p.result c.times-p.type_inv, c.times-p.ensures, a, d) refl in
    let q : to_z w128 (of_z w128 c.times-q.result) ≡ c.args.v.now.0 *ℤ c.args.w.now.1 = rw (kept c.times-q.result c.times-q.type_inv, c.times-q.ensures, a, e) refl in
    let r : to_z w128 (of_z w128 c.times-r.result) ≡ c.args.v.now.1 *ℤ c.args.w.now.0 = rw (kept c.times-r.result c.times-r.type_inv, c.times-r.ensures, b, d) refl in
    let s : to_z w128 (of_z w128 c.times-s.result) ≡ c.args.v.now.1 *ℤ c.args.w.now.1 = rw (kept c.times-s.result c.times-s.type_inv, c.times-s.ensures, b, e) refl in
    rw (kept c.least_in.result c.least_in.type_inv, kept c.greatest_in.result c.greatest_in.type_inv, c.least_in.ensures, c.greatest_in.ensures, p, q, r, s) refl
