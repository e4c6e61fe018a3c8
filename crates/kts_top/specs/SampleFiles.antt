-- The files of the sample problem of each size: ferries between two ports, with so many requests and as many trips.
use Rattle.std.specs.Prelude.{ℕ, zero, suc, ◌+◌, ◌*◌, ◌%◌, List, [], ◌∷◌, ◌++◌, codes, decimal, flat_map, nat_eq, if◌then◌else◌}
use Rattle.kts_base.specs.Bytes.{joined}
use Rattle.kts_spec.specs.Texts.{comma}
use Rattle.kts_top.specs.declared.sample_texts.Entry.{Entry}
use Rattle.kts_top.specs.declared.sample_texts.Entry.TheVariants.{Request, Trip, Origin, Destination, Load, Release, Due, Ferry, Rank}

-- the specification
abbrev pub sample_spec : List ℕ
sample_spec = joined (
    codes "(spec ferry)\n"
    ∷ codes "(index Req)\n"
    ∷ codes "(index Port)\n"
    ∷ codes "(index Ship)\n"
    ∷ codes "(index Trip)\n"
    ∷ codes "(given from (Req) Port)\n"
    ∷ codes "(given to (Req) Port)\n"
    ∷ codes "(given load (Req) (int 0 100))\n"
    ∷ codes "(given rel (Req) (int 0 48))\n"
    ∷ codes "(given due (Req) (int 0 48))\n"
    ∷ codes "(given ship (Trip) Ship)\n"
    ∷ codes "(given rank (Trip) (int 0 99))\n"
    ∷ codes "(given dep (Trip) Port)\n"
    ∷ codes "(given arr (Trip) Port)\n"
    ∷ codes "(given cap (Ship) (int 0 500))\n"
    ∷ codes "(given dur (Ship) (int 1 24))\n"
    ∷ codes "(choose trip (Req) Trip)\n"
    ∷ codes "(choose start (Trip) (int 0 48))\n"
    ∷ codes "(formula ports (forall (r Req) (t Trip) (and (=> (= (trip r) t) (= (dep t) (from r))) (=> (= (trip r) t) (= (arr t) (to r))))))\n"
    ∷ codes "(formula release (forall (r Req) (t Trip) (=> (= (trip r) t) (<= (rel r) (start t)))))\n"
    ∷ codes "(formula arrival (forall (r Req) (t Trip) (=> (= (trip r) t) (<= (+ (start t) (dur (ship t))) (due r)))))\n"
    ∷ codes "(formula capacity (forall (t Trip) (<= (sum (r Req) (= (trip r) t) (load r)) (cap (ship t)))))\n"
    ∷ codes "(formula apart (forall (t Trip) (u Trip) (=> (and (= (ship t) (ship u)) (< (rank t) (rank u))) (<= (+ (start t) (dur (ship t))) (start u)))))\n"
    ∷ codes "(manifest trip)\n"
    ∷ [])

-- the entry of the request or trip of number k, from 1
abbrev pub entry_text : Entry → ℕ → List ℕ
entry_text Request k = codes "\"m" ++ (decimal k ++ codes "\"")
entry_text Trip k = codes "\"t" ++ (decimal k ++ codes "\"")
entry_text Origin k = codes "\"A\""
entry_text Destination k = codes "\"B\""
entry_text Load k = decimal (10 * (1 + k % 3))
entry_text Release k = decimal (5 * k % 7)
entry_text Due k = codes "48"
entry_text Ferry k = if nat_eq (k % 2) 1 then codes "\"f1\"" else codes "\"f2\""
entry_text Rank k = decimal k

-- what stands before the entry after so many
abbrev pub separator : ℕ → List ℕ
separator zero = []
separator (suc k) = comma ∷ []

-- so many entries
abbrev pub entries_text : Entry → ℕ → List ℕ
entries_text entry zero = []
entries_text entry (suc k) = entries_text entry k ++ (separator k ++ entry_text entry (suc k))

-- the data in parts: what stands before the entries of an array, and which they are
abbrev pub sample_parts : List (List ℕ × Entry)
sample_parts =
    (codes "{\"Req\":[", Request)
    ∷ (codes "],\"Port\":[\"A\",\"B\"],\"Ship\":[\"f1\",\"f2\"],\"Trip\":[", Trip)
    ∷ (codes "],\"from\":[", Origin)
    ∷ (codes "],\"to\":[", Destination)
    ∷ (codes "],\"load\":[", Load)
    ∷ (codes "],\"rel\":[", Release)
    ∷ (codes "],\"due\":[", Due)
    ∷ (codes "],\"ship\":[", Ferry)
    ∷ (codes "],\"rank\":[", Rank)
    ∷ (codes "],\"dep\":[", Origin)
    ∷ (codes "],\"arr\":[", Destination)
    ∷ []

abbrev pub part_text : ℕ → List ℕ × Entry → List ℕ
part_text size (before, entry) = before ++ entries_text entry size

-- the data of a size
abbrev pub sample_data : ℕ → List ℕ
sample_data size = flat_map (part_text size) sample_parts ++ codes "],\"cap\":[60,60],\"dur\":[1,1]}"
