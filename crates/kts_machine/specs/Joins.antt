-- What either of two abstract values allows.
use Rattle.std.specs.Prelude.{◌++◌}
use Rattle.kts_abs.specs.InSpace.{rising}
use Rattle.kts_abs.specs.Values.{Abs, Win, Mem}
use Rattle.kts_abs.specs.Windows.{hull_of}

-- of one kind; of two kinds, the first
abbrev pub both_of : Abs → Abs → Abs
both_of (Win v) (Win w) = Win (hull_of v w)
both_of (Mem ms) (Mem ns) = Mem (rising (ms ++ ns))
both_of (Win v) (Mem ns) = Win v
both_of (Mem ms) (Win w) = Mem ms
