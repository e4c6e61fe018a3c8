-- From the course of a call to its end.
use Rattle.std.proofs.Common.{◌≡◌, ◌≢◌, ◌⊎◌, inl, inr, refl, sym, ap, ◌∙◌, subst, ℕ, suc, ◌+◌, ◌<◌, ◌≤◌, arith, List, [], length, replicate, Bool, true, false, Option, Some, None, cond, nat_le, nat_eq}
use Rattle.std.proofs.lemmas.Bool.{le-leb}
use Rattle.std.proofs.lemmas.Bool.Decides.{nat_tests}
use Rattle.std.proofs.lemmas.List.{length-replicate}
use Rattle.kts_base.specs.declared.status.Status.{Status}
use Rattle.kts_base.specs.Counts.{Rose, told_next, told_after}
use Rattle.kts_base.specs.Limits.{most_file_bytes}
use Rattle.kts_base.specs.Stores.{Store}
use Rattle.kts_base.specs.Writes.{Log}
use Rattle.kts_top.specs.Calls.{MayHold, Loads}
use Rattle.kts_top.specs.Courses.{Loaded, IsRead, Unread, failed, long, starved, Course, ended, lacked, unread, read}
use Rattle.kts_top.specs.Endings.{Ends}
use Rattle.kts_top.specs.Lines.{Owed, fault_read, refused_file, no_memory}
use Rattle.kts_top.specs.Owed.{Want, end, load, with_file, owed_from}
use Rattle.kts_top.proofs.Statuses.{IsSolving, Solves, refused_kind}

-- ---- what is owed

-- what goes on so goes on
next_same : (k : ℕ) (content : Option (List ℕ)) (f g : List ℕ → Owed) → ((bytes : List ℕ) → f bytes ≡ g bytes) → with_file k content f ≡ with_file k content g
next_same k None f g same = refl
next_same k (Some bytes) f g same = ap (λ o. cond (nat_le (length bytes) most_file_bytes) o (refused_file k)) (same bytes)

-- what is owed is decided by what the loads from here on give
pub owed_same : (want : Want) (k : ℕ) (held other : ℕ → List ℕ → Option (List ℕ)) → ((n : ℕ) → k ≤ n → (path : List ℕ) → held n path ≡ other n path) → owed_from k held want ≡ owed_from k other want
owed_same (end owed) k held other same = refl
owed_same (load path next) k held other same =
    ap (λ content. with_file k content (λ bytes. owed_from (k + 1) held (next bytes))) (same k (omega arith) path)
    ∙ next_same k (other k path) (λ bytes. owed_from (k + 1) held (next bytes)) (λ bytes. owed_from (k + 1) other (next bytes)) (λ bytes. owed_same (next bytes) (k + 1) held other (λ n h. same n (omega (arith, h))))

-- ---- what files may hold

-- what is told of a path, and these bytes where nothing is told
abbrev pub filled : Option (Option (List ℕ)) → List ℕ → Option (List ℕ)
filled None bytes = Some bytes
filled (Some content) bytes = content

-- the load of number k gives what is told, or these bytes; the others what they gave
abbrev pub with_load : Store → ℕ → List ℕ → (ℕ → List ℕ → Option (List ℕ)) → ℕ → List ℕ → Option (List ℕ)
with_load files k bytes held n path = cond (nat_eq n k) (filled (files.held path) bytes) (held n path)

module _ (files : Store) (k : ℕ) (bytes : List ℕ) (held : ℕ → List ℕ → Option (List ℕ)) where
  with_load_may : MayHold files held → MayHold files (with_load files k bytes held)
  with_load_may may n path content told = by (nat_eq n k)
    where
      by : (b : Bool) → cond b (filled (files.held path) bytes) (held n path) ≡ content
      by true = ap (λ t. filled t bytes) told
      by false = may n path content told

  -- the load itself
  here : (path : List ℕ) → with_load files k bytes held k path ≡ filled (files.held path) bytes
  here path =
      let e : nat_eq k k ≡ true = grind (arith, nat_tests) in
      ap (λ b. cond b (filled (files.held path) bytes) (held k path)) e

  -- later loads
  later : (n : ℕ) → k + 1 ≤ n → (path : List ℕ) → with_load files k bytes held n path ≡ held n path
  later n h path =
      let e : nat_eq n k ≡ false = grind (arith, nat_tests, h) in
      ap (λ b. cond b (filled (files.held path) bytes) (held n path)) e

-- each load gives what is told, or these bytes
abbrev pub filled_all : Store → List ℕ → ℕ → List ℕ → Option (List ℕ)
filled_all files bytes n path = filled (files.held path) bytes

pub filled_may : (files : Store) (bytes : List ℕ) → MayHold files (filled_all files bytes)
filled_may files bytes n path content told = ap (λ t. filled t bytes) told

-- what is owed for a file, by its length
with_short : (k : ℕ) (bytes : List ℕ) (next : List ℕ → Owed) → length bytes ≤ most_file_bytes → with_file k (Some bytes) next ≡ next bytes
with_short k bytes next h =
    let e : nat_le (length bytes) most_file_bytes ≡ true = le-leb (length bytes) most_file_bytes h in
    ap (λ t. cond t (next bytes) (refused_file k)) e

with_long : (k : ℕ) (bytes : List ℕ) (next : List ℕ → Owed) → most_file_bytes < length bytes → with_file k (Some bytes) next ≡ refused_file k
with_long k bytes next h =
    let e : nat_le (length bytes) most_file_bytes ≡ false = search arith in
    ap (λ t. cond t (next bytes) (refused_file k)) e

-- there are bytes past each length
longer : (n : ℕ) → (bytes : List ℕ) × (n < length bytes)
longer n = let zero_byte : ℕ = 0 in (replicate (suc n) zero_byte, omega (arith, length-replicate (suc n) zero_byte))

-- ---- loads

-- what is loaded is decided by what the loads from here on give
pub loads_same : (want : Want) (k : ℕ) (given other : ℕ → List ℕ → Option (List ℕ)) → ((n : ℕ) → k ≤ n → (path : List ℕ) → given n path ≡ other n path)
    → (n : ℕ) (path : List ℕ) → Loads given k want n path → Loads other k want n path
loads_same (end owed) k given other same n path loads = absurd loads
loads_same (load first next) k given other same n path (inl here) = inl here
loads_same (load first next) k given other same n path (inr (bytes, gives, loads)) =
    inr (bytes, sym (same k (omega arith) first) ∙ gives, loads_same (next bytes) (k + 1) given other (λ m h. same m (omega (arith, h))) n path loads)

-- so many files were loaded, where the next has the number k: none of those to come, or up to one of them
abbrev pub Made : (ℕ → List ℕ → Option (List ℕ)) → ℕ → Want → ℕ → Type 0
Made given k want n = (suc n ≡ k) ⊎ ((path : List ℕ) × Loads given k want n path)

-- ---- the end of a course

module _ (Traps : Type 0) (status : Status) (old new : Log) (after : Store) (files : Store) where
  -- why this was put, by what each load gives
  pub data Why (given : ℕ → List ℕ → Option (List ℕ)) (k : ℕ) (want : Want) (owed : Owed) : Type 0 where
    by_content : IsSolving Traps owed.status → after.faults ≡ files.faults → owed_from k given want ≡ owed → Why given k want owed
    by_load : (n : ℕ) (path : List ℕ) → Loads given k want n path → after.loads ≡ told_after n files.loads → owed ≡ fault_read n
        → Rose files.faults after.faults ⊎ ((files.held path ≡ Some None) × (owed_from k given want ≡ owed)) → Why given k want owed
    by_memory : after.faults ≡ files.faults → owed ≡ no_memory → Why given k want owed

  -- the end: what was put, and why; what each load gives, and how many were made
  pub record End (k : ℕ) (want : Want) : Type 0 where
    pub given : ℕ → List ℕ → Option (List ℕ)
    pub may : MayHold files given
    pub owed : Owed
    pub ends : Ends status old new owed
    pub held : after.held ≡ files.held
    pub count : ℕ
    pub loads : after.loads ≡ told_after count files.loads
    pub made : Made given k want count
    pub why : Why given k want owed

  -- where a course stands: so many files were loaded, and no load failed
  pub record At (k : ℕ) (before : Store) : Type 0 where
    pub held : before.held ≡ files.held
    pub faults : before.faults ≡ files.faults
    pub count : ℕ
    pub count_is : k ≡ suc count
    pub loads : before.loads ≡ told_after count files.loads

  module _ (k : ℕ) (before : Store) (path : List ℕ) (next : List ℕ → Want) (at : At k before) where
    -- the loads after one more
    counted : (more : Store) → Loaded before more → more.loads ≡ told_after k files.loads
    counted more loaded =
        loaded.loads ∙ ap told_next at.loads ∙ sym (ap (λ n. told_after n files.loads) at.count_is)

    told_here : (content : Option (Option (List ℕ))) → files.held path ≡ content → before.held path ≡ content
    told_here content e = ap (λ (h : List ℕ → Option (Option (List ℕ))). h path) at.held ∙ e

    -- the next file stands so
    at_next : (middle : Store) (bytes : List ℕ) → IsRead before middle path bytes → At (k + 1) middle
    at_next middle bytes is = record {
      held = is.loaded.held ∙ at.held;
      faults = is.calm ∙ at.faults;
      count = k;
      count_is = omega arith;
      loads = counted middle is.loaded;
    }

    -- the end after this load is that of the course
    module _ (middle : Store) (bytes : List ℕ) (is : IsRead before middle path bytes) (rest : End (k + 1) (next bytes)) where
      abbrev given_here : ℕ → List ℕ → Option (List ℕ)
      given_here = with_load files k bytes rest.given

      gives : given_here k path ≡ Some bytes
      gives = here files k bytes rest.given path ∙ by (files.held path) refl
        where
          by : (told : Option (Option (List ℕ))) → files.held path ≡ told → filled told bytes ≡ Some bytes
          by None e = refl
          by (Some None) e = absurd (is.there (told_here _ e))
          by (Some (Some content)) e = ap Some (sym (is.same content (told_here _ e)))

      -- what is owed, and loaded, by what the later loads give is so by what all give
      owed_here : owed_from k given_here (load path next) ≡ owed_from (k + 1) rest.given (next bytes)
      owed_here =
          ap (λ content. with_file k content (λ b. owed_from (k + 1) given_here (next b))) gives
          ∙ with_short k bytes (λ b. owed_from (k + 1) given_here (next b)) is.short
          ∙ owed_same (next bytes) (k + 1) given_here rest.given (later files k bytes rest.given)

      loads_here : (n : ℕ) (other : List ℕ) → Loads rest.given (k + 1) (next bytes) n other → Loads given_here k (load path next) n other
      loads_here n other loads =
          inr (bytes, gives, loads_same (next bytes) (k + 1) rest.given given_here (λ m h p. sym (later files k bytes rest.given m h p)) n other loads)

      end_read : End k (load path next)
      end_read = record {
        given = given_here;
        may = with_load_may files k bytes rest.given rest.may;
        owed = rest.owed;
        ends = rest.ends;
        held = rest.held;
        count = rest.count;
        loads = rest.loads;
        made = made_here rest.made;
        why = by rest.why;
      }
        where
          made_here : Made rest.given (k + 1) (next bytes) rest.count → Made given_here k (load path next) rest.count
          made_here (inl all) = inr (path, inl (omega (arith, all), refl))
          made_here (inr (other, loads)) = inr (other, loads_here rest.count other loads)

          by : Why rest.given (k + 1) (next bytes) rest.owed → Why given_here k (load path next) rest.owed
          by (by_content kind calm owing) = by_content kind calm (owed_here ∙ owing)
          by (by_load n other wanted loads line (inl rose)) = by_load n other (loads_here n other wanted) loads line (inl rose)
          by (by_load n other wanted loads line (inr nothing)) = by_load n other (loads_here n other wanted) loads line (inr (nothing.0, owed_here ∙ nothing.1))
          by (by_memory calm line) = by_memory calm line

    -- a file that is too long
    owing_long : (bytes : List ℕ) → most_file_bytes < length bytes → before.held path ≢ Some None → ((content : List ℕ) → before.held path ≡ Some (Some content) → most_file_bytes < length content)
        → owed_from k (filled_all files bytes) (load path next) ≡ refused_file k
    owing_long bytes past there over = by (files.held path) refl
      where
        goes : List ℕ → Owed
        goes b = owed_from (k + 1) (filled_all files bytes) (next b)

        by : (told : Option (Option (List ℕ))) → files.held path ≡ told → with_file k (filled (files.held path) bytes) goes ≡ refused_file k
        by None e = ap (λ t. with_file k (filled t bytes) goes) e ∙ with_long k bytes goes past
        by (Some None) e = absurd (there (told_here _ e))
        by (Some (Some content)) e = ap (λ t. with_file k (filled t bytes) goes) e ∙ with_long k content goes (over content (told_here _ e))

    -- nothing is held
    owing_nothing : files.held path ≡ Some None → owed_from k (filled_all files []) (load path next) ≡ fault_read k
    owing_nothing e = ap (λ t. with_file k (filled t []) (λ b. owed_from (k + 1) (filled_all files []) (next b))) e

    end_unread : Unread status old new after k before path → End k (load path next)
    end_unread (failed loaded cause ends) = record {
      given = filled_all files [];
      may = filled_may files [];
      owed = fault_read k;
      ends = ends;
      held = loaded.held ∙ at.held;
      count = k;
      loads = counted after loaded;
      made = inr (path, inl (refl, refl));
      why = by_load k path (inl (refl, refl)) (counted after loaded) refl (by cause);
    }
      where
        by : Rose before.faults after.faults ⊎ (before.held path ≡ Some None)
            → Rose files.faults after.faults ⊎ ((files.held path ≡ Some None) × (owed_from k (filled_all files []) (load path next) ≡ fault_read k))
        by (inl rose) = inl (subst (λ n. Rose n after.faults) at.faults rose)
        by (inr nothing) =
            let e : files.held path ≡ Some None = ap (λ (h : List ℕ → Option (Option (List ℕ))). h path) (sym at.held) ∙ nothing in
            inr (e, owing_nothing e)
    end_unread (long loaded calm there over ends) =
        let past = longer most_file_bytes in
        record {
          given = filled_all files past.0;
          may = filled_may files past.0;
          owed = refused_file k;
          ends = ends;
          held = loaded.held ∙ at.held;
          count = k;
          loads = counted after loaded;
          made = inr (path, inl (refl, refl));
          why = by_content (refused_kind Traps) (calm ∙ at.faults) (owing_long past.0 past.1 there over);
        }
    end_unread (starved loaded calm ends) = record {
      given = filled_all files [];
      may = filled_may files [];
      owed = no_memory;
      ends = ends;
      held = loaded.held ∙ at.held;
      count = k;
      loads = counted after loaded;
      made = inr (path, inl (refl, refl));
      why = by_memory (calm ∙ at.faults) refl;
    }

  -- the end where nothing more was loaded
  end_here : (k : ℕ) (before : Store) (want : Want) (owed : Owed) → At k before → after ≡ before → Ends status old new owed
      → (after.faults ≡ files.faults → Why (filled_all files []) k want owed) → End k want
  end_here k before want owed at same ends why = record {
    given = filled_all files [];
    may = filled_may files [];
    owed = owed;
    ends = ends;
    held = ap (λ (s : Store). s.held) same ∙ at.held;
    count = at.count;
    loads = ap (λ (s : Store). s.loads) same ∙ at.loads;
    made = inl (sym at.count_is);
    why = why (ap (λ (s : Store). s.faults) same ∙ at.faults);
  }

  -- a course that stands so comes to its end
  pub end_of : (k : ℕ) (before : Store) (want : Want) → Solves Traps want → At k before → Course status old new after k before want → End k want
  end_of k before (end owed) kind at (ended same ends) = end_here k before (end owed) owed at same ends (λ calm. by_content kind calm refl)
  end_of k before want kind at (lacked same ends) = end_here k before want no_memory at same ends (λ calm. by_memory calm refl)
  end_of k before (load path next) kind at (unread cause) = end_unread k before path next at cause
  end_of k before (load path next) kind at (read middle bytes is course) =
      end_read k before path next at middle bytes is (end_of (k + 1) middle (next bytes) (kind bytes) (at_next k before path next at middle bytes is) course)
