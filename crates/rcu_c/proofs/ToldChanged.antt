-- The buffer of C after a comparison of an entry, and the entry after it.
use Rattle.std.proofs.Common.{◌≡◌, ◌≢◌, ℕ, List, Option, Some, Result, Ok, ap, refl, subst}
use Rattle.std.specs.Prelude.{IfOk, OnOk, slice_set}
use Rattle.rcu_live.specs.Watcher.{Watching}
use Rattle.rcu_graph.specs.Nodes.{nodes_in}
use Rattle.rcu_graph.specs.declared.writer.Full.{Full}
use Rattle.rcu_graph.specs.declared.known.Planned.{Planned}
use Rattle.rcu_map.specs.Chains.{buckets_in}
use Rattle.rcu_map.specs.Compared.{HasComparedToReplace, IsAsRead, compared, words_found}
use Rattle.rcu_map.specs.Keys.{key_in}
use Rattle.rcu_map.specs.Puts.{Holds}
use Rattle.rcu_map.specs.Words.{as_words}
use Rattle.rcu_map.specs.declared.compared.Compared.{Compared}
use Rattle.rcu_map.specs.declared.compared.Compared.TheVariants.{Changed, Gone, Same}
use Rattle.rcu_map.proofs.AsRead.{has_its_key}
use Rattle.rcu_c.specs.MapEntries.{IsKeyed, told}

-- a buffer that was not written to is as it was
pub told_of_one : (found : Compared) (room read : List ℕ) → (found ≢ Changed → read ≡ room)
    → told read (words_found found read) ≡ told room (words_found found read)
told_of_one Same room read same = refl
told_of_one Changed room read same = refl
told_of_one Gone room read same =
    ap (λ (words : List ℕ). slice_set words 0 0) (same (λ e. absurd (cc)))

-- the result of a comparison, for these words and this buffer
module _ (result : Result Compared Full) (new read words : List ℕ)
    (before after : Watching Planned)
    (by : HasComparedToReplace as_words IsKeyed key_in (key_in words) read words before
    (compared result new) after) where
  abbrev WasRead : Type 0
  WasRead = IsAsRead (buckets_in before) (nodes_in before.view.client.known) (key_in words) read

  -- an entry that has changed, or is gone, is not as it was read
  pub not_as_read : (found : Compared) → result ≡ Ok found → found ≢ Same
      → (result ≡ Ok Changed → WasRead → ⊥) → WasRead → ⊥
  not_as_read Same is differ another = absurd (differ refl)
  not_as_read Changed is differ another = another is
  not_as_read Gone is differ another = λ was.
      subst
      (λ (r : Result Compared Full). IfOk (compared r new) (λ (old : Option (List ℕ)).
      Holds as_words IsKeyed key_in (buckets_in before) (nodes_in before.view.client.known)
      (key_in words) old))
      is by.old
      (has_its_key (buckets_in before) (nodes_in before.view.client.known) (key_in words) read was)

  -- then nothing changed
  pub nothing_changed : (found : Compared) → result ≡ Ok found → (WasRead → ⊥) → after ≡ before
  nothing_changed found is other =
      subst
      (λ (r : Result Compared Full). OnOk (compared r new) ((WasRead → ⊥) → after ≡ before))
      is by.stays
      other

  -- one that was replaced has the words that were read
  pub replaced_what_was_read : result ≡ Ok Same → (result ≢ Ok Changed → new ≡ read)
      → HasComparedToReplace as_words IsKeyed key_in (key_in words) read words before
      (Ok (Some read)) after
  replaced_what_was_read is same =
      subst
      (λ (w : List ℕ). HasComparedToReplace as_words IsKeyed key_in (key_in words) read words
      before (Ok (Some w)) after)
      (same (λ e. absurd (cc)))
      (subst
      (λ (r : Result Compared Full). HasComparedToReplace as_words IsKeyed key_in
      (key_in words) read words before (compared r new) after)
      is by)
