-- The things that a refused call leaves as they were: a handle, and the memory that it would have
-- written, or another handle.
use Rattle.std.specs.Prelude.{◌≡◌}

-- two things stay
pub record BothStay {A B : Type 0} (a a' : A) (b b' : B) : Type 0 where
  pub first : a' ≡ a
  pub second : b' ≡ b

-- three things stay
pub record AllStay {A B C : Type 0} (a a' : A) (b b' : B) (c c' : C) : Type 0 where
  pub first : a' ≡ a
  pub second : b' ≡ b
  pub third : c' ≡ c
