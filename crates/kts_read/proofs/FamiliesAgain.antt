-- A family that is written is read again.
use Rattle.std.proofs.Common.{◌≡◌, refl, ℕ, ℤ, pos, negsuc, suc, ◌<◌, ◌≤◌, List, [], ◌∷◌, ◌++◌, length, map, min, true, false, ◌&&◌, nat_lt, nat_le, Some, Ok, arith}
use Rattle.std.specs.Prelude.{codes, decimal, int_le, neg_ℤ}
use Rattle.std.specs.Fmt.{signed_decimal}
use Rattle.std.specs.List.{list_all, AllByRecursion}
use Rattle.std.proofs.lemmas.Bool.{and_parts}
use Rattle.std.proofs.lemmas.Bool.Decides.{nat_tests}
use Rattle.std.proofs.lemmas.Int.{ints}
use Rattle.kts_base.specs.Limits.{most_type_end, most_arguments, most_instructions}
use Rattle.kts_base.specs.Names.{is_between}
use Rattle.kts_base.specs.Reads.{each_from}
use Rattle.kts_code.specs.CodeTexts.{type_words, family_words}
use Rattle.kts_spec.specs.Names.{is_language_name}
use Rattle.kts_spec.specs.Schemas.{is_end, is_type, is_family}
use Rattle.kts_spec.specs.declared.declarations.Family.{Family}
use Rattle.kts_spec.specs.declared.declarations.ValueType.{ValueType}
use Rattle.kts_spec.specs.declared.declarations.ValueType.TheVariants.{Int, Member}
use Rattle.kts_read.specs.DeclarationLines.{is_taken, end_at, index_at, int_type, member_type, args_from, family_in}
use Rattle.kts_read.specs.Words.{number_below}
use Rattle.kts_read.specs.declared.declarations.Declared.{Declared}
use Rattle.kts_read.proofs.ArgumentLoops.{args_at}
use Rattle.kts_read.proofs.Cleans.{name_clean, decimal_clean, signed_clean, literal}
use Rattle.kts_read.proofs.FamilyLines.{map_count}
use Rattle.kts_read.proofs.InstrLaws.{IsClean}
use Rattle.kts_read.proofs.NumberTexts.{IsSmall, number_of-signed}
use Rattle.kts_read.proofs.Tests.{whole_again, lt_found}

pub below_again : (count n : ℕ) → n < count → count ≤ most_instructions → number_below count (decimal n) ≡ Some n
below_again count n h few = whole_again 0 (min count (suc most_instructions)) n (omega arith) (omega (arith, h, few)) (omega (arith, h, few))

pub index_again : (indexes i : ℕ) → i < indexes → indexes ≤ most_instructions → index_at indexes (decimal i) ≡ Ok i
unfolding index_at
index_again indexes i h few = rw (below_again indexes i h few) refl

pub args_again : (indexes : ℕ) (args : List ℕ) → list_all (λ i. nat_lt i indexes) args ≡ true → indexes ≤ most_instructions → args_at indexes (map decimal args) ≡ Ok args
unfolding each_from
args_again indexes [] h few = refl
args_again indexes (i ∷ is) h few =
    let both = and_parts (nat_lt i indexes) (list_all (λ i. nat_lt i indexes) is) h in rw (index_again indexes i (lt_found i indexes both.0) few, args_again indexes is both.1 few) refl

pub end_small : (z : ℤ) → is_end z ≡ true → IsSmall z
end_small (pos n) h =
    let both = and_parts (int_le (neg_ℤ (pos most_type_end)) (pos n)) (int_le (pos n) (pos most_type_end)) h in let b : n ≤ most_type_end = grind (arith, ints) in grind (arith, nat_tests)
end_small (negsuc n) h =
    let both = and_parts (int_le (neg_ℤ (pos most_type_end)) (negsuc n)) (int_le (negsuc n) (pos most_type_end)) h in let b : suc n ≤ most_type_end = grind (arith, ints) in grind (arith, nat_tests)

end_again : (z : ℤ) → is_end z ≡ true → end_at (signed_decimal z) ≡ Ok z
unfolding end_at
end_again z h = rw (number_of-signed z (end_small z h), h) refl

few_is : (a : ℕ) → nat_le a most_arguments ≡ true → a ≤ 2
few_is a h = grind (arith, nat_tests)

not_few : (n : ℕ) → nat_lt (suc (suc (suc n))) 3 ≡ false
not_few n = grind (arith, nat_tests)

five_to_seven : (n : ℕ) → n ≤ 2 → is_between 5 7 (suc (suc (suc (suc (suc n))))) ≡ true
five_to_seven n h = grind (arith, nat_tests)

four_to_six : (n : ℕ) → n ≤ 2 → is_between 4 6 (suc (suc (suc (suc n)))) ≡ true
four_to_six n h = grind (arith, nat_tests)

module _ (x : Declared) (first name : List ℕ) (args : List ℕ) (named : is_language_name name ≡ true) (fresh : is_taken x name ≡ false) (small : length x.indexes ≤ most_instructions) where
  abbrev family : ValueType → Family
  family kind = record { name = name; args = args; kind = kind }

  int_again : (lo hi : ℤ) → is_family (length x.indexes) (family (Int lo hi)) ≡ true → family_in x (first ∷ name ∷ codes "int" ∷ signed_decimal lo ∷ signed_decimal hi ∷ map decimal args) ≡ Ok (family (Int lo hi))
  unfolding family_in int_type args_from
  int_again lo hi h =
      let a = and_parts (nat_le (length args) most_arguments && list_all (λ i. nat_lt i (length x.indexes)) args) _ h in
      let b = and_parts (nat_le (length args) most_arguments) _ a.0 in
      let c = and_parts (is_end lo && is_end hi) _ a.1 in
      let e = and_parts (is_end lo) _ c.0 in
      let count : length (map decimal args) ≤ 2 = omega (arith, map_count decimal args, few_is (length args) b.0) in
      rw (not_few (suc (suc (length (map decimal args)))), five_to_seven (length (map decimal args)) count, fresh, named, end_again lo e.0, end_again hi e.1, c.1, args_again (length x.indexes) args b.1 small) refl

  member_again : (i : ℕ) → is_family (length x.indexes) (family (Member i)) ≡ true → family_in x (first ∷ name ∷ codes "mem" ∷ decimal i ∷ map decimal args) ≡ Ok (family (Member i))
  unfolding family_in member_type args_from
  member_again i h =
      let a = and_parts (nat_le (length args) most_arguments && list_all (λ i. nat_lt i (length x.indexes)) args) _ h in
      let b = and_parts (nat_le (length args) most_arguments) _ a.0 in
      let count : length (map decimal args) ≤ 2 = omega (arith, map_count decimal args, few_is (length args) b.0) in
      rw (not_few (suc (length (map decimal args))), four_to_six (length (map decimal args)) count, fresh, named, index_again (length x.indexes) i (lt_found i (length x.indexes) a.1) small, args_again (length x.indexes) args b.1 small) refl

  pub family_again : (kind : ValueType) → is_family (length x.indexes) (family kind) ≡ true → family_in x (first ∷ family_words (family kind)) ≡ Ok (family kind)
  family_again (Int lo hi) h = int_again lo hi h
  family_again (Member i) h = member_again i h

pub decimals_clean : (indexes : ℕ) (args : List ℕ) → list_all (λ i. nat_lt i indexes) args ≡ true → indexes ≤ most_instructions → AllByRecursion IsClean (map decimal args)
decimals_clean indexes [] h few = tt
decimals_clean indexes (i ∷ is) h few =
    let both = and_parts (nat_lt i indexes) (list_all (λ i. nat_lt i indexes) is) h in
    let b = lt_found i indexes both.0 in (decimal_clean i (omega (arith, b, few)), decimals_clean indexes is both.1 few)

kind_clean : (indexes : ℕ) (kind : ValueType) (rest : List (List ℕ)) → is_type indexes kind ≡ true → indexes ≤ most_instructions → AllByRecursion IsClean rest → AllByRecursion IsClean (type_words kind ++ rest)
kind_clean indexes (Int lo hi) rest h few clean =
    let c = and_parts (is_end lo && is_end hi) _ h in
    let e = and_parts (is_end lo) _ c.0 in
    (literal (codes "int") (omega arith) refl, (signed_clean lo (end_small lo e.0), (signed_clean hi (end_small hi e.1), clean)))
kind_clean indexes (Member i) rest h few clean = let b = lt_found i indexes h in (literal (codes "mem") (omega arith) refl, (decimal_clean i (omega (arith, b, few)), clean))

pub family_clean : (indexes : ℕ) (f : Family) → is_language_name f.name ≡ true → is_family indexes f ≡ true → indexes ≤ most_instructions → AllByRecursion IsClean (family_words f)
family_clean indexes f named h few =
    let a = and_parts (nat_le (length f.args) most_arguments && list_all (λ i. nat_lt i indexes) f.args) _ h in
    let b = and_parts (nat_le (length f.args) most_arguments) _ a.0 in
    (name_clean f.name named, kind_clean indexes f.kind (map decimal f.args) a.1 few (decimals_clean indexes f.args b.1 few))
