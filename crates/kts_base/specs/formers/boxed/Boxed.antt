-- Where a `Boxed` keeps its value, for types that hold themselves in a box: its value is the thing itself, and its one
-- field is a box of std, which differs from another only in the value behind it.
use mathlib.Core.Path.{refl}
use mathlib.Core.Former.{Former, this, const, pair, via}
use base.Stored.{gnil}
use base.Fml.{ftrue}
use denote.RattleType.{RattleType}
use denote.Memory.{part_of}
use denote.RawPtr.{Ptr}
use denote.Sharing.{nothing}
use denote.HoleLaws.{Alike}
use denote.HolePlaces.{Recodes, struct_places, laid, one_value}
use denote.Hole.Fix.{over}
use denote.Param.Weighed.{Weighed}
use denote.Model.Placed.{view_places}
use Rattle.std.specs.declared.boxed.Box.{Box}
use Rattle.std.specs.contracts.boxed.Box as std_box
use Rattle.std.specs.declared.alloc.Global.{Global}
use Rattle.std.specs.contracts.alloc.Global as global
use Rattle.std.specs.contracts.impls.GlobalAllocator.TheImpl.{ghosts}
use Rattle.kts_base.specs.declared.boxed.Boxed.TheInside.{Inside}
use Rattle.kts_base.specs.declared.boxed.Boxed.TheView.{view, invariant}
use Rattle.kts_base.specs.contracts.boxed.Boxed as outside
use Rattle.kts_base.specs.contracts.boxed.Boxed.TheInside as inside

abbrev pub the_former : Former {0} → Former {0}
the_former value = value

abbrev pub the_weighed : {value : Former {0}} → Weighed value → Weighed (the_former value)
the_weighed weight = weight

-- the record of the field: a pointer and an allocator, which no value changes, and the value
abbrev field : Former {0}
field = via (pair (const (Ptr × Global)) this) Inside (λ X boxed. ((boxed.inner.ptr, boxed.inner.alloc), boxed.inner.value))
    (λ X parts. record { inner = record { ptr = parts.0.0; alloc = parts.0.1; value = parts.1 } }) (λ X _. refl) (λ X _. refl)

-- the same box round another value
abbrev holding : {X Y : Type 0} → Box X Global → Y → Box Y Global
holding b y = record { ptr = b.ptr; alloc = b.alloc; value = y }

abbrev box_of : RattleType → RattleType
box_of R = std_box.the_row R global.the_row ghosts

module _ (R S : RattleType) (to : R.Denot → S.Denot) where
  boxes_alike : Alike R S to → Alike (box_of R) (box_of S) (λ b. holding b (to b.value))
  unfolding part_of
  boxes_alike alike = record {
    mir_same = λ i. (box_of (one_value R (alike.mir_same i) (λ _. ftrue) (λ _ _. nothing) gnil)).mir;
    own_same = λ b i. (box_of (one_value R (alike.mir_same i) (alike.own_same b.value i) (alike.shr_same b.value i) gnil)).own_val (holding b tt);
    shr_same = λ b i. (box_of (one_value R (alike.mir_same i) (alike.own_same b.value i) (alike.shr_same b.value i) gnil)).shr_at (holding b tt);
  }

  pub the_places : Alike R S to → Alike (outside.the_row R) (outside.the_row S) ((the_former this).map R.Denot S.Denot to)
  the_places alike =
      view_places field this view (λ X Y _ _. refl) (λ X _. refl) R.Denot S.Denot to (outside.the_row R).coded (outside.the_row S).coded
      (invariant R.Denot) (invariant S.Denot) (λ _ p q. refl) (λ _ p q. refl) (λ _ _. tt) (λ _ _. tt)
      (over (inside.the_row R)) (over (inside.the_row S))
      (struct_places (inside.the_type R) (inside.the_type S) ((λ b. holding b (to b.value)), tt) _ (λ _. refl) refl (laid _ _ _ (boxes_alike alike), tt))

  pub the_codes_placed : Recodes R S to → Recodes (outside.the_row R) (outside.the_row S) ((the_former this).map R.Denot S.Denot to)
  the_codes_placed recodes x = recodes x
