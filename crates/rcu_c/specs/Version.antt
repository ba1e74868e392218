-- The version.
use Rattle.std.specs.Prelude.{ℕ}

-- the library's version: its first number counts as 1,000,000, its second one as 1,000, its third
-- one as 1
abbrev pub version : ℕ
version = 3000
