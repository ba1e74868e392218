-- The bytes that a writer takes, one part after another.
use Rattle.std.proofs.Common.{◌≡◌, ◌++◌, ℕ, List, take, drop, sym, ap, ◌∙◌}
use Rattle.std.proofs.Common.{append_assoc, take-append-drop}
use Rattle.std.specs.Io.KnownBytes.{Appends}
use Rattle.std.proofs.KnownBytes.{Appends-trans}
use Rattle.rcu_text.specs.Streams.{Outgoing}

-- a front of the bytes was taken, and the rest is left
pub record TakesFront (old new : Outgoing) (bytes rest : List ℕ) : Type 0 where
  pub front : List ℕ
  pub whole : bytes ≡ front ++ rest
  pub out : Appends old.taken new.taken front
  pub sound : new.failed ≡ old.failed

-- a front of the rest is taken
pub takes_more : (a b c : Outgoing) (bytes rest : List ℕ) (n : ℕ)
    → TakesFront a b bytes rest → Appends b.taken c.taken (take n rest) → c.failed ≡ b.failed
    → TakesFront a c bytes (drop n rest)
takes_more a b c bytes rest n t more still = record {
  front = t.front ++ take n rest;
  whole = t.whole ∙ ap (λ (l : List ℕ). t.front ++ l) (sym (take-append-drop n rest))
      ∙ sym (append_assoc t.front (take n rest) (drop n rest));
  out = Appends-trans a.taken b.taken c.taken t.front (take n rest) t.out more;
  sound = still ∙ t.sound;
}
