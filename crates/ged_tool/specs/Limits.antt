-- How long a file may be.
use Rattle.std.specs.Prelude.{ℕ}

-- the greatest limit on a file's length that a run can be given, which the program and the calls for C use: 1 GiB, in bytes
abbrev pub greatest_limit : ℕ
greatest_limit = 1073741824

-- the most bytes that may come beyond the limit
abbrev pub greatest_read : ℕ
greatest_read = 131072
