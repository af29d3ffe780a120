use Rattle.std.proofs.Common.{◌≡◌, ◌++◌, length}
use Rattle.sha2.specs.Hashers.{Holds256}
use Rattle.ged_line.specs.Bytes.{Bytes}
use Rattle.ged_tool.proofs.calls.digest.sha256_of.Given as goal

-- the hasher holds what was read
abbrev pub invariant-loop-reader : goal.invariant-loop-reader
invariant-loop-reader l =
    (length l.buffer ≡ 4096) × ((front : Bytes) × Holds256 l.hasher front × (l.fn.reader ≡ front ++ l.reader))

abbrev pub decreases-loop-reader : goal.decreases-loop-reader
decreases-loop-reader l = length l.reader
