-- The processors that a line of a pair lists.
use Rattle.std.proofs.Common.{ℕ, List, ◌++◌, Option, Some, None}

-- processors before others, if there are others
abbrev pub with_front : List ℕ → Option (List ℕ) → Option (List ℕ)
with_front front None = None
with_front front (Some cpus) = Some (front ++ cpus)
