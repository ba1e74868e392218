-- The words that a worker draws.
use Rattle.std.specs.Prelude.{ℕ, ◌+◌, ◌%◌, ◌^◌}
use Rattle.rand_core.specs.Pcg32Seed.{pcg32_seed}
use Rattle.rand_pcg.specs.Lcg.{Lcg}
use Rattle.rand_pcg.specs.Pcg.{pcg32_of_seed}

-- the generator of a worker, seeded by the sum of the seed and the worker, in 64 bits
abbrev pub generator_of : ℕ → ℕ → Lcg
generator_of seed worker = pcg32_of_seed (pcg32_seed 16 ((seed + worker) % 2 ^ 64))
