-- The bytes are an object that has no other key than these.
use Rattle.std.proofs.Common.{◌≡◌, refl, ◌∙◌, ap, subst, ℕ, zero, suc, ◌+◌, ◌<◌, arith, List, [], ◌∷◌, length, Bool, true, false, Option, Some, None, Ok}
use Rattle.std.specs.Prelude.{if◌then◌else◌}
use Rattle.std.specs.List.{Contains}
use Rattle.std.specs.Str.{IsUtf8, is_utf8}
use Rattle.std.proofs.lemmas.Cmp.{nat_list_eq_equiv}
use Rattle.std.proofs.lemmas.Map.Views.{Contains-from_any, list_any-from_Contains}
use Rattle.std.proofs.lemmas.Str.{IsUtf8-from_is_utf8, is_utf8-from_IsUtf8}
use Rattle.serde_json.specs.Data.{Data, Members}
use Rattle.serde_json.specs.Find.{get, as_object}
use Rattle.serde_json.specs.Read.{read}
use Rattle.kts_base.specs.Reads.{and_then}
use Rattle.kts_spec.specs.Names.{is_among}
use Rattle.kts_data.specs.Faults.{Read, fault, or_fault}
use Rattle.kts_data.specs.Files.{IsObject}
use Rattle.kts_data.specs.Instances.{or_unknown}
use Rattle.kts_data.specs.Json.{json_of, value_under, keys, unknown_from}
use Rattle.kts_data.specs.declared.fault.Reason.TheVariants.{NotJson, NotObject, MissingName, UnknownName}
use Rattle.kts_data.proofs.NamePlaces.{name_is}
use Rattle.kts_data.proofs.ReadParts.{err_ok, same_ok, then_parts, then_from, or_fault_parts, or_fault_from}

-- ---- one value

-- a value that is read under a name stands there
pub under_sound : (name : List ℕ) (json d : Data) → value_under name json ≡ Ok d → get name json ≡ Some d
unfolding value_under
under_sound name json d h = or_fault_parts (get name json) (fault (Some name) 0 MissingName) d h

-- a value that stands under a name is read there
pub under_complete : (name : List ℕ) (json d : Data) → get name json ≡ Some d → value_under name json ≡ Ok d
unfolding value_under
under_complete name json d h = or_fault_from (get name json) (fault (Some name) 0 MissingName) d h

-- ---- keys

-- a name is among names where it is one of them
pub among_is : (names : List (List ℕ)) (key : List ℕ) → is_among names key ≡ true → Contains names key
among_is names key h = Contains-from_any name_is key names h

-- one of these names is among them
pub is_one : (names : List (List ℕ)) (key : List ℕ) → Contains names key → is_among names key ≡ true
is_one names key h = list_any-from_Contains nat_list_eq_equiv key names h

-- where no key is unknown, each is one of the names
pub known_sound : (names : List (List ℕ)) (k : ℕ) (ks : List (List ℕ)) → unknown_from names k ks ≡ None → (key : List ℕ) → Contains ks key
    → Contains names key
unfolding unknown_from
known_sound names k [] h key (j, l, e) = absurd (omega arith)
known_sound names k (first ∷ ks) h key has = by (is_among names first) refl h (known_sound names (k + 1) ks) has
  where
    by : (b : Bool) → is_among names first ≡ b → if b then unknown_from names (k + 1) ks else Some k ≡ None
        → (unknown_from names (k + 1) ks ≡ None → (key : List ℕ) → Contains ks key → Contains names key) → Contains (first ∷ ks) key
        → Contains names key
    by true a f rest (zero, l, e) = subst (Contains names) e (among_is names first a)
    by true a f rest (suc j, l, e) = rest f key (j, omega arith, e)
    by false a f rest c = absurd (let some : Some k ≡ None = f in cc)

-- where each key is one of the names, none is unknown
pub known_complete : (names : List (List ℕ)) (k : ℕ) (ks : List (List ℕ)) → ((key : List ℕ) → Contains ks key → Contains names key)
    → unknown_from names k ks ≡ None
unfolding unknown_from
known_complete names k [] h = refl
known_complete names k (first ∷ ks) h =
    ap (λ b. if b then unknown_from names (k + 1) ks else Some k) (is_one names first (h first (0, omega arith, refl)))
    ∙ known_complete names (k + 1) ks (λ key c. h key (suc c.0, next c.0 c.1, c.2))
  where
    next : (j : ℕ) → j < length ks → suc j < suc (length ks)
    next j l = omega (arith, l)

-- what is read where no key is unknown
pub unknown_parts : {A : Type 0} (o : Option ℕ) (a b : A) → or_unknown o a ≡ Ok b → (o ≡ None) × (a ≡ b)
unknown_parts None a b h = (refl, same_ok a b h)
unknown_parts (Some k) a b h = err_ok (fault None k UnknownName) b h

-- ---- the whole

-- what is read of bytes that are an object: what its value and its members tell
pub record ObjectRead {A : Type 0} (bytes : List ℕ) (rest : Data → Members → Read A) (a : A) : Type 0 where
  pub json : Data
  pub members : Members
  pub text : IsUtf8 bytes
  pub reads : read bytes ≡ Some json
  pub object : as_object json ≡ Some members
  pub value : rest json members ≡ Ok a

-- the object that the bytes are, or a fault
abbrev pub object_read : {A : Type 0} → List ℕ → (Data → Members → Read A) → Read A
object_read bytes rest = and_then (json_of bytes) (λ json. and_then (or_fault (as_object json) (fault None 0 NotObject)) (rest json))

-- what is read of bytes is read of an object
pub object_sound : {A : Type 0} (bytes : List ℕ) (rest : Data → Members → Read A) (a : A) → object_read bytes rest ≡ Ok a → ObjectRead bytes rest a
unfolding json_of
object_sound bytes rest a h =
    let p = then_parts (json_of bytes) (λ json. and_then (or_fault (as_object json) (fault None 0 NotObject)) (rest json)) a h in
    let q = then_parts (or_fault (as_object p.0) (fault None 0 NotObject)) (rest p.0) a p.2 in
    let t = by p.0 (is_utf8 bytes) (or_fault_parts (if is_utf8 bytes then read bytes else None) (fault None 0 NotJson) p.0 p.1) in
    record {
      json = p.0;
      members = q.0;
      text = IsUtf8-from_is_utf8 bytes t.0;
      reads = t.1;
      object = or_fault_parts (as_object p.0) (fault None 0 NotObject) q.0 q.1;
      value = q.2;
    }
  where
    by : (d : Data) (b : Bool) → if b then read bytes else None ≡ Some d → (b ≡ true) × (read bytes ≡ Some d)
    by d true f = (refl, f)
    by d false f = absurd (let none : None ≡ Some d = f in cc)

-- it is an object, where none of its keys is unknown
abbrev pub object_of : {A : Type 0} (names : List (List ℕ)) (bytes : List ℕ) (rest : Data → Members → Read A) (a : A) (o : ObjectRead bytes rest a)
    → unknown_from names 0 (keys o.members) ≡ None → IsObject names bytes
object_of names bytes rest a o none = record {
  json = o.json;
  members = o.members;
  text = o.text;
  reads = o.reads;
  object = o.object;
  known = known_sound names 0 (keys o.members) none;
}

-- of an object the rest is read
pub object_complete : {A : Type 0} (bytes : List ℕ) (rest : Data → Members → Read A) (names : List (List ℕ)) (o : IsObject names bytes)
    → object_read bytes rest ≡ rest o.json o.members
unfolding json_of
object_complete bytes rest names o =
    then_from (json_of bytes) (λ json. and_then (or_fault (as_object json) (fault None 0 NotObject)) (rest json)) o.json
    (or_fault_from (if is_utf8 bytes then read bytes else None) (fault None 0 NotJson) o.json
    (ap (λ b. if b then read bytes else None) (is_utf8-from_IsUtf8 bytes o.text) ∙ o.reads))
    ∙ then_from (or_fault (as_object o.json) (fault None 0 NotObject)) (rest o.json) o.members
    (or_fault_from (as_object o.json) (fault None 0 NotObject) o.members o.object)
