-- Small specifications, their data, and what is printed for them.
use Rattle.std.specs.Prelude.{◌≡◌, refl, true, ℕ, ℤ, pos, List, [], ◌∷◌, ◌++◌, flat_map, codes}
use Rattle.kts_spec.specs.declared.declarations.ValueType.{ValueType}
use Rattle.kts_spec.specs.declared.declarations.ValueType.TheVariants.{Int, Member}
use Rattle.kts_spec.specs.declared.declarations.Family.{Family}
use Rattle.kts_spec.specs.declared.declarations.Decl.{Decl}
use Rattle.kts_spec.specs.declared.declarations.Decl.TheVariants.{Index, Given, Choose, Manifest}
use Rattle.kts_spec.specs.declared.schema.Schema.{Schema}
use Rattle.kts_spec.specs.declared.instance.Instance.{Instance}
use Rattle.kts_spec.specs.declared.tree.Comparison.TheVariants.{Le, Ge, Gt, Eq, Same, Other}
use Rattle.kts_spec.specs.declared.tree.Term.{Term}
use Rattle.kts_spec.specs.declared.tree.Term.TheVariants as term
use Rattle.kts_spec.specs.declared.tree.Formula.{Formula}
use Rattle.kts_spec.specs.declared.tree.Formula.TheVariants as formula
use Rattle.kts_spec.specs.Answers.{answer}
use Rattle.kts_spec.specs.Data.{is_valid}
use Rattle.kts_spec.specs.Schemas.{is_schema}
use Rattle.kts_spec.specs.Specifications.{is_spec}
use Rattle.kts_spec.specs.Texts.{due, begun, newline}

-- formulas by name
abbrev pub Formulas : Type 0
Formulas = List (List ℕ × Formula)

-- the specification is one, the data are valid for it, and this is printed
pub record Prints (schema : Schema) (formulas : Formulas) (inst : Instance) (bytes : List ℕ) : Type 0 where
  pub accepted : is_spec schema formulas ≡ true
  pub valid : is_valid schema inst ≡ true
  pub printed : due (record { schema = schema; formulas = formulas; is_spec = accepted }) inst ≡ bytes

-- the same, and these are the schedules of the answer
pub record Allows (schema : Schema) (formulas : Formulas) (inst : Instance) (schedules : List (List ℤ)) : Type 0 where
  pub accepted : is_spec schema formulas ≡ true
  pub valid : is_valid schema inst ≡ true
  pub answered : answer (record { schema = schema; formulas = formulas; is_spec = accepted }) inst ≡ schedules

-- the same, and this is printed where the steps end after so many schedules
pub record PrintsAtFirst (schema : Schema) (formulas : Formulas) (inst : Instance) (k : ℕ) (bytes : List ℕ) : Type 0 where
  pub accepted : is_spec schema formulas ≡ true
  pub valid : is_valid schema inst ≡ true
  pub printed : begun (record { schema = schema; formulas = formulas; is_spec = accepted }) inst k ≡ bytes

-- lines, each with its end
abbrev pub lines : List (List ℕ) → List ℕ
lines = flat_map (λ line. line ++ newline)

-- no schedule
abbrev pub none_line : List ℕ
none_line = lines (codes "none" ∷ [])

-- a given or a choice by its name, its indexes and its type
abbrev pub family : List ℕ → List ℕ → ValueType → Family
family name args kind = record { name = name; args = args; kind = kind }

-- a number as a term
abbrev pub number : ℕ → Term
number n = term.Number (pos n)

-- the whole numbers from 0 to n
abbrev pub below : ℕ → ValueType
below n = Int (pos 0) (pos n)

-- an access to a choice, and to a given
abbrev pub choice : ℕ → List Term → Term
choice = term.Choice

abbrev pub given : ℕ → List Term → Term
given = term.Given

-- the variable in scope of this number
abbrev pub var : ℕ → Term
var = term.Var

-- ---- one choice

-- (spec s) (choose x () (int 0 2))
pub one_choice_is_schema : is_schema (codes "s") (Choose 0 ∷ []) [] [] (family (codes "x") [] (below 2) ∷ []) [] ≡ true
unfolding is_schema
one_choice_is_schema = refl

abbrev pub one_choice : Schema
one_choice = record {
  name = codes "s";
  decls = Choose 0 ∷ [];
  indexes = [];
  givens = [];
  choices = family (codes "x") [] (below 2) ∷ [];
  tasks = [];
  is_schema = one_choice_is_schema;
}

-- (formula f (<= x 1))
abbrev pub at_most_one : Formulas
at_most_one = (codes "f", formula.Compare Le (choice 0 []) (number 1)) ∷ []

abbrev pub no_data : Instance
no_data = record { members = []; values = [] }

abbrev pub at_most_one_text : List ℕ
at_most_one_text = lines (codes "schedule 1" ∷ codes "x =0" ∷ codes "schedule 2" ∷ codes "x =1" ∷ codes "end 2" ∷ [])

abbrev pub at_most_one_begun : List ℕ
at_most_one_begun = lines (codes "schedule 1" ∷ codes "x =0" ∷ codes "budget 1" ∷ [])

-- ---- no choice

-- (spec g)
pub no_choice_is_schema : is_schema (codes "g") [] [] [] [] [] ≡ true
unfolding is_schema
no_choice_is_schema = refl

abbrev pub no_choice : Schema
no_choice = record {
  name = codes "g";
  decls = [];
  indexes = [];
  givens = [];
  choices = [];
  tasks = [];
  is_schema = no_choice_is_schema;
}

-- (formula f (<= a b))
abbrev pub at_most : ℕ → ℕ → Formulas
at_most a b = (codes "f", formula.Compare Le (number a) (number b)) ∷ []

abbrev pub no_choice_text : List ℕ
no_choice_text = lines (codes "schedule 1" ∷ codes "end 1" ∷ [])

-- ---- requests on trips that start after their release

-- (spec s1) (index Req) (index Trip) (given rel (Req) (int 0 20)) (choose trip (Req) Trip) (choose start (Trip) (int 0 3))
abbrev pub release_decls : List Decl
release_decls = Index 0 ∷ Index 1 ∷ Given 0 ∷ Choose 0 ∷ Choose 1 ∷ []

abbrev pub release_indexes : List (List ℕ)
release_indexes = codes "Req" ∷ codes "Trip" ∷ []

abbrev pub release_givens : List Family
release_givens = family (codes "rel") (0 ∷ []) (below 20) ∷ []

abbrev pub release_choices : List Family
release_choices = family (codes "trip") (0 ∷ []) (Member 1) ∷ family (codes "start") (1 ∷ []) (below 3) ∷ []

pub release_is_schema : is_schema (codes "s1") release_decls release_indexes release_givens release_choices [] ≡ true
unfolding is_schema
release_is_schema = refl

abbrev pub release_schema : Schema
release_schema = record {
  name = codes "s1";
  decls = release_decls;
  indexes = release_indexes;
  givens = release_givens;
  choices = release_choices;
  tasks = [];
  is_schema = release_is_schema;
}

-- (=> (= (trip r) t) (<= (rel r) (start t)))
abbrev pub released : Formula
released =
    formula.Implies (formula.Compare Same (choice 0 (var 0 ∷ [])) (var 1))
    (formula.Compare Le (given 0 (var 0 ∷ [])) (choice 1 (var 1 ∷ [])))

-- (formula release (forall (r Req) (t Trip) ..))
abbrev pub release : Formulas
release = (codes "release", formula.Forall (0 ∷ 1 ∷ []) released) ∷ []

-- (/= (trip r) t)
abbrev pub elsewhere : Formula
elsewhere = formula.Compare Other (choice 0 (var 1 ∷ [])) (var 0)

-- (= (start t) 0)
abbrev pub start_at_zero : Formula
start_at_zero = formula.Compare Eq (choice 1 (var 0 ∷ [])) (number 0)

-- (=> (forall (r Req) (/= (trip r) t)) (= (start t) 0))
abbrev pub idle_at_zero : Formula
idle_at_zero = formula.Implies (formula.Forall (0 ∷ []) elsewhere) start_at_zero

-- the same, and (formula idle (forall (t Trip) ..))
abbrev pub release_and_idle : Formulas
release_and_idle = (codes "release", formula.Forall (0 ∷ 1 ∷ []) released) ∷ (codes "idle", formula.Forall (1 ∷ []) idle_at_zero) ∷ []

-- requests, trips, and when each request is released
abbrev pub request_data : List (List ℕ) → List (List ℕ) → List ℤ → Instance
request_data requests trips releases = record { members = requests ∷ trips ∷ []; values = releases ∷ [] }

-- one request and one trip
abbrev pub released_at : ℕ → Instance
released_at n = request_data (codes "a" ∷ []) (codes "t1" ∷ []) (pos n ∷ [])

abbrev pub one_trip_text : List ℕ
one_trip_text =
    lines (codes "schedule 1" ∷ codes "trip a=t1" ∷ codes "start t1=2" ∷ codes "schedule 2" ∷ codes "trip a=t1" ∷ codes "start t1=3" ∷ codes "end 2" ∷ [])

-- a trip, and no request
abbrev pub no_request : Instance
no_request = request_data [] (codes "t1" ∷ []) []

abbrev pub no_request_text : List ℕ
no_request_text =
    lines (codes "schedule 1" ∷ codes "trip" ∷ codes "start t1=0" ∷ codes "schedule 2" ∷ codes "trip" ∷ codes "start t1=1"
    ∷ codes "schedule 3" ∷ codes "trip" ∷ codes "start t1=2" ∷ codes "schedule 4" ∷ codes "trip" ∷ codes "start t1=3" ∷ codes "end 4" ∷ [])

-- a request, and no trip
abbrev pub no_trip : Instance
no_trip = request_data (codes "a" ∷ []) [] (pos 0 ∷ [])

-- neither
abbrev pub nothing : Instance
nothing = request_data [] [] []

abbrev pub nothing_text : List ℕ
nothing_text = lines (codes "schedule 1" ∷ codes "trip" ∷ codes "start" ∷ codes "end 1" ∷ [])

-- one request and two trips
abbrev pub two_trips : Instance
two_trips = request_data (codes "a" ∷ []) (codes "t1" ∷ codes "t2" ∷ []) (pos 2 ∷ [])

-- a schedule of three cells
abbrev pub three : ℕ → ℕ → ℕ → List ℤ
three a b c = pos a ∷ pos b ∷ pos c ∷ []

-- the trip of the request, and when the two trips start
abbrev pub two_trips_answer : List (List ℤ)
two_trips_answer =
    three 0 2 0 ∷ three 0 2 1 ∷ three 0 2 2 ∷ three 0 2 3 ∷ three 0 3 0 ∷ three 0 3 1 ∷ three 0 3 2 ∷ three 0 3 3
    ∷ three 1 0 2 ∷ three 1 0 3 ∷ three 1 1 2 ∷ three 1 1 3 ∷ three 1 2 2 ∷ three 1 2 3 ∷ three 1 3 2 ∷ three 1 3 3 ∷ []

abbrev pub idle_answer : List (List ℤ)
idle_answer = three 0 2 0 ∷ three 0 3 0 ∷ three 1 0 2 ∷ three 1 0 3 ∷ []

-- ---- loads on trips, with a manifest

-- (index Req) (index Trip) (given load (Req) (int 0 9)) (choose trip (Req) Trip) (manifest trip)
pub load_is_schema : is_schema (codes "cap") (Index 0 ∷ Index 1 ∷ Given 0 ∷ Choose 0 ∷ Manifest 0 ∷ []) (codes "Req" ∷ codes "Trip" ∷ []) (family (codes "load") (0 ∷ []) (below 9) ∷ []) (family (codes "trip") (0 ∷ []) (Member 1) ∷ []) [] ≡ true
unfolding is_schema
load_is_schema = refl

abbrev pub load_schema : Schema
load_schema = record {
  name = codes "cap";
  decls = Index 0 ∷ Index 1 ∷ Given 0 ∷ Choose 0 ∷ Manifest 0 ∷ [];
  indexes = codes "Req" ∷ codes "Trip" ∷ [];
  givens = family (codes "load") (0 ∷ []) (below 9) ∷ [];
  choices = family (codes "trip") (0 ∷ []) (Member 1) ∷ [];
  tasks = [];
  is_schema = load_is_schema;
}

-- (sum (r Req) (= (trip r) t) (load r))
abbrev pub load_on_trip : Term
load_on_trip = term.Sum 0 (formula.Compare Same (choice 0 (var 1 ∷ [])) (var 0)) (given 0 (var 1 ∷ []))

-- (formula capacity (forall (t Trip) (<= .. 5))) (formula floor (forall (t Trip) (>= .. 3)))
abbrev pub capacity : Formulas
capacity =
    (codes "capacity", formula.Forall (1 ∷ []) (formula.Compare Le load_on_trip (number 5)))
    ∷ (codes "floor", formula.Forall (1 ∷ []) (formula.Compare Ge load_on_trip (number 3))) ∷ []

abbrev pub two_loads : Instance
two_loads = record { members = (codes "a" ∷ codes "b" ∷ []) ∷ (codes "t1" ∷ codes "t2" ∷ []) ∷ []; values = (pos 3 ∷ pos 3 ∷ []) ∷ [] }

abbrev pub capacity_text : List ℕ
capacity_text =
    lines (codes "schedule 1" ∷ codes "trip a=t1 b=t2" ∷ codes "manifest trip t1 a" ∷ codes "manifest trip t2 b"
    ∷ codes "schedule 2" ∷ codes "trip a=t2 b=t1" ∷ codes "manifest trip t1 b" ∷ codes "manifest trip t2 a" ∷ codes "end 2" ∷ [])

-- ---- legs between trips: a given inside an access, and one without arguments

-- (index Trip) (index Leg) (given prev (Leg) Trip) (given succ (Leg) Trip) (given dur () (int 0 9)) (choose start (Trip) (int 0 4))
abbrev pub leg_givens : List Family
leg_givens = family (codes "prev") (1 ∷ []) (Member 0) ∷ family (codes "succ") (1 ∷ []) (Member 0) ∷ family (codes "dur") [] (below 9) ∷ []

abbrev pub leg_decls : List Decl
leg_decls = Index 0 ∷ Index 1 ∷ Given 0 ∷ Given 1 ∷ Given 2 ∷ Choose 0 ∷ []

pub leg_is_schema : is_schema (codes "sep") leg_decls (codes "Trip" ∷ codes "Leg" ∷ []) leg_givens (family (codes "start") (0 ∷ []) (below 4) ∷ []) [] ≡ true
unfolding is_schema
leg_is_schema = refl

abbrev pub leg_schema : Schema
leg_schema = record {
  name = codes "sep";
  decls = leg_decls;
  indexes = codes "Trip" ∷ codes "Leg" ∷ [];
  givens = leg_givens;
  choices = family (codes "start") (0 ∷ []) (below 4) ∷ [];
  tasks = [];
  is_schema = leg_is_schema;
}

-- (<= (+ (start (prev k)) dur) (start (succ k)))
abbrev pub separated : Formula
separated =
    formula.Compare Le (term.Add (choice 0 (given 0 (var 0 ∷ []) ∷ []) ∷ given 2 [] ∷ [])) (choice 0 (given 1 (var 0 ∷ []) ∷ []))

abbrev pub separation : Formulas
separation = (codes "apart", formula.Forall (1 ∷ []) separated) ∷ []

abbrev pub one_leg : Instance
one_leg = record {
  members = (codes "a" ∷ codes "b" ∷ []) ∷ (codes "k" ∷ []) ∷ [];
  values = (pos 0 ∷ []) ∷ (pos 1 ∷ []) ∷ (pos 4 ∷ []) ∷ [];
}

abbrev pub separation_text : List ℕ
separation_text = lines (codes "schedule 1" ∷ codes "start a=0 b=4" ∷ codes "end 1" ∷ [])

-- ---- a choice of two arguments

-- (index I) (index J) (choose x (I J) (int 0 1))
pub grid_is_schema : is_schema (codes "grid") (Index 0 ∷ Index 1 ∷ Choose 0 ∷ []) (codes "I" ∷ codes "J" ∷ []) [] (family (codes "x") (0 ∷ 1 ∷ []) (below 1) ∷ []) [] ≡ true
unfolding is_schema
grid_is_schema = refl

abbrev pub grid_schema : Schema
grid_schema = record {
  name = codes "grid";
  decls = Index 0 ∷ Index 1 ∷ Choose 0 ∷ [];
  indexes = codes "I" ∷ codes "J" ∷ [];
  givens = [];
  choices = family (codes "x") (0 ∷ 1 ∷ []) (below 1) ∷ [];
  tasks = [];
  is_schema = grid_is_schema;
}

-- (sum (j J) (<= 0 0) (x i j))
abbrev pub row_sum : Term
row_sum = term.Sum 1 (formula.Compare Le (number 0) (number 0)) (choice 0 (var 0 ∷ var 1 ∷ []))

-- (formula f (exists (i I) (> .. 1)))
abbrev pub full_row : Formulas
full_row = (codes "f", formula.Exists (0 ∷ []) (formula.Compare Gt row_sum (number 1))) ∷ []

abbrev pub two_by_two : Instance
two_by_two = record { members = (codes "a" ∷ codes "b" ∷ []) ∷ (codes "c" ∷ codes "d" ∷ []) ∷ []; values = [] }

abbrev pub full_row_begun : List ℕ
full_row_begun =
    lines (codes "schedule 1" ∷ codes "x a,c=0 a,d=0 b,c=1 b,d=1" ∷ codes "schedule 2" ∷ codes "x a,c=0 a,d=1 b,c=1 b,d=1" ∷ codes "budget 2" ∷ [])
