-- Where a `List` keeps its items, for types that hold lists of themselves: its value is the list of them, in order, and
-- its one field is a vector of std, whose own placing carries over.
use mathlib.Core.Path.{◌≡◌, refl, sym}
use mathlib.Core.List.{List, []}
use mathlib.Core.Former.{Former, this, list, via, children}
use base.Stored.{code_map}
use denote.RattleType.{RattleType}
use denote.HoleLaws.{Alike}
use denote.HolePlaces.{Recodes, struct_places, laid}
use denote.Hole.Carrier.{listed, list-listed}
use denote.Hole.Fix.{over}
use denote.Param.Weighed.{Weighed, w_list}
use denote.Model.Placed.{view_places}
use Rattle.std.specs.formers.vec.Vec as vector
use Rattle.std.specs.declared.alloc.Global.{Global}
use Rattle.std.specs.contracts.alloc.Global as global
use Rattle.std.specs.contracts.impls.GlobalAllocator.TheImpl.{ghosts}
use Rattle.kts_base.specs.declared.list.List.TheInside.{Inside}
use Rattle.kts_base.specs.declared.list.List.TheView.{view, invariant}
use Rattle.kts_base.specs.contracts.list.List as outside
use Rattle.kts_base.specs.contracts.list.List.TheInside as inside

abbrev pub the_former : Former {0} → Former {0}
the_former items = list items

abbrev pub the_weighed : {items : Former {0}} → Weighed items → Weighed (the_former items)
the_weighed weights = w_list weights

pub the_empty : List ⊥
the_empty = []

abbrev pub the_items : (X : Type 0) → List X → List X
the_items X xs = xs

pub the_items_listed : (X : Type 0) (xs : List X) → listed _ (children (the_former this) X xs) ≡ the_items X xs
the_items_listed X xs = list-listed X xs

-- the record of the field, as the vector that it is
abbrev field : Former {0}
field = via (vector.the_former this Global) Inside (λ X record_of. record_of.items) (λ X v. record { items = v }) (λ X _. refl) (λ X _. refl)

module _ (R S : RattleType) (to : R.Denot → S.Denot) where
  pub the_places : Alike R S to → Alike (outside.the_row R) (outside.the_row S) ((the_former this).map R.Denot S.Denot to)
  the_places alike =
      let of_vector = vector.the_places global.the_row ghosts R S to alike in
      view_places field (list this) view (λ X Y _ _. refl) (λ X _. refl) R.Denot S.Denot to (outside.the_row R).coded (outside.the_row S).coded
      (invariant R.Denot) (invariant S.Denot) (λ _ p q. refl) (λ _ p q. refl) (λ _ _. tt) (λ _ _. tt)
      (over (inside.the_row R)) (over (inside.the_row S))
      (struct_places (inside.the_type R) (inside.the_type S) (vector.mapped to, tt) _ (λ _. refl) refl (laid _ _ _ of_vector, tt))

  pub the_codes_placed : Recodes R S to → Recodes (outside.the_row R) (outside.the_row S) ((the_former this).map R.Denot S.Denot to)
  the_codes_placed recodes xs = sym (code_map R.coded.code S.coded.code to (λ x. sym (recodes x)) xs)
