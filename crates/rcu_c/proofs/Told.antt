-- The buffer of C after an entry was read into it, or was not.
use Rattle.std.proofs.Common.{◌≡◌, Bool, true, false, ℕ, List, ap, refl}
use Rattle.std.specs.Prelude.{IsSome, slice_set}
use Rattle.std.proofs.lemmas.Bool.{false≢true}
use Rattle.rcu_map.specs.Words.{words_if}
use Rattle.rcu_c.specs.MapEntries.{told}

-- a buffer that was not read into is as it was
pub told_once : (there : Bool) (room read : List ℕ) → (there ≡ false → read ≡ room)
    → told read (words_if there read) ≡ told room (words_if there read)
told_once true room read same = refl
told_once false room read same = ap (λ (words : List ℕ). slice_set words 0 0) (same refl)

pub some_there : (there : Bool) (words : List ℕ) → IsSome (words_if there words) → there ≡ true
some_there true words some = refl
some_there false words some = absurd (false≢true some)
