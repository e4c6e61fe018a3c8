-- The keys of an object, one after another.
use Rattle.std.proofs.Common.{◌≡◌, refl, sym, ◌∙◌, ap, ℕ, ◌+◌, List, [], ◌∷◌, ◌++◌, map, Some, None, Bool, true, false, ◌||◌}
use Rattle.std.specs.Prelude.{String, string_bytes}
use Rattle.std.specs.List.{list_any}
use Rattle.std.specs.declared.alloc.Global.{Global}
use Rattle.serde_json.specs.declared.value.Value.{Value}
use Rattle.serde_json.specs.View.{members_view}
use Rattle.kts_spec.specs.Names.{is_among, same_name}
use Rattle.kts_spec.specs.declared.declarations.Family.{Family}
use Rattle.kts_data.specs.Json.{keys, unknown_from}

pub known : (names : List (List ℕ)) (k : ℕ) (it rest : List (String Global × Value)) (x : String Global × Value) → it ≡ x ∷ rest → true ≡ is_among names (string_bytes x.0)
    → unknown_from names k (keys (members_view it)) ≡ unknown_from names (k + 1) (keys (members_view rest))
unfolding unknown_from
known names k it rest x e h = rw (e, ← h) refl

pub unknown : (names : List (List ℕ)) (k : ℕ) (it rest : List (String Global × Value)) (x : String Global × Value) → it ≡ x ∷ rest → false ≡ is_among names (string_bytes x.0)
    → unknown_from names k (keys (members_view it)) ≡ Some k
unfolding unknown_from
unknown names k it rest x e h = rw (e, ← h) refl

pub no_more : (names : List (List ℕ)) (k : ℕ) (it : List (String Global × Value)) → it ≡ [] → unknown_from names k (keys (members_view it)) ≡ None
unfolding unknown_from
no_more names k it e = rw e refl

or_assoc : (a b c : Bool) → ((a || b) || c) ≡ (a || (b || c))
or_assoc true b c = refl
or_assoc false b c = refl

-- a name among indexes and families
pub among_both : (names : List (List ℕ)) (families : List Family) (key : List ℕ)
    → is_among (names ++ map (λ (family : Family). family.name) families) key ≡ (is_among names key || list_any (λ (family : Family). same_name key family.name) families)
among_both [] [] key = refl
among_both [] (family ∷ families) key = ap (λ t. same_name key family.name || t) (among_both [] families key)
among_both (name ∷ names) families key =
    ap (λ t. same_name key name || t) (among_both names families key) ∙ sym (or_assoc (same_name key name) (is_among names key) _)
