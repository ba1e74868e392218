-- The state of processors, as a history defines it. A history is the list of the accepted calls,
-- the newest first. So the history as it was at an earlier call is the part of the list from that
-- call on.
use Rattle.std.specs.Prelude.{ℕ, ◌≡◌, ◌<◌, ◌==◌, Bool, true, false, not, ◌&&◌, ◌||◌, List, [], ◌∷◌}
use Rattle.std.specs.Prelude.{None}
use Rattle.std.specs.List.{list_any}
use Rattle.rcu_seq.specs.Histories.{is_on, latest, some_since}
use Rattle.rcu_seq.specs.Tags.{first_tag, same_tag}
use Rattle.rcu_seq.specs.declared.tag.Tag.{Tag}
use Rattle.rcu_node.specs.CpuSet.{is_in}
use Rattle.rcu_hotplug.specs.Hotplug.{Processors, Call, Arrive, Depart, Begin, Report, at_first}
use Rattle.rcu_hotplug.specs.Hotplug.{refusal, after_call}

abbrev pub History : Type 0
History = List Call

-- the processors after a history
abbrev pub after_calls : ℕ → History → Processors
after_calls cpus [] = at_first cpus
after_calls cpus (call ∷ h) = after_call (after_calls cpus h) call

-- each call was accepted at its time
abbrev pub AreAccepted : ℕ → History → Type 0
AreAccepted cpus [] = Unit {0}
AreAccepted cpus (call ∷ h) = (refusal (after_calls cpus h) call ≡ None) × AreAccepted cpus h

-- the processor arrives
abbrev pub arrives : ℕ → Call → Bool
arrives cpu (Arrive c) = c == cpu
arrives cpu _ = false

-- the processor departs
abbrev pub departs : ℕ → Call → Bool
departs cpu (Depart c) = c == cpu
departs cpu _ = false

-- a grace period begins
abbrev pub begins : Call → Bool
begins (Begin now) = true
begins _ = false

-- the processor reports this tag
abbrev pub reports : ℕ → Tag → Call → Bool
reports cpu now (Report c noted) = c == cpu && same_tag noted now
reports cpu now _ = false

-- the tag of the latest begin, number 0 of epoch 0 before any
abbrev pub tag : History → Tag
tag [] = first_tag
tag (Begin now ∷ h) = now
tag (_ ∷ h) = tag h

-- the processor is online: its last arrival or departure is an arrival; before any such call, only
-- processor 0 is online
abbrev pub online : ℕ → History → Bool
online cpu h = is_on (cpu == 0) (arrives cpu) (departs cpu) h

-- the latest grace period awaited the processor at its start: it was online then
abbrev pub starts : ℕ → History → Bool
starts cpu h = list_any begins h && online cpu (latest begins h)

-- this call makes the processor heard in the grace period of this tag: it reports the tag, or
-- departs
abbrev pub hears : ℕ → Tag → Call → Bool
hears cpu now call = reports cpu now call || departs cpu call

-- since the latest begin the processor was heard in the grace period of this tag
abbrev pub is_heard : ℕ → Tag → History → Bool
is_heard cpu now h = some_since begins (λ call earlier. hears cpu now call) h

-- the processor is awaited: it was online at the latest begin, and since then it did not report
-- with the grace period's number, and did not depart
abbrev pub awaits : ℕ → History → Bool
awaits cpu h = starts cpu h && not (is_heard cpu (tag h) h)

-- the processors are as the history defines them
pub record Represents (cpus : ℕ) (p : Processors) (h : History) : Type 0 where
  pub tag : p.tag ≡ tag h
  pub start_set : (cpu : ℕ) → cpu < cpus → is_in p.start_set cpu ≡ starts cpu h
  pub awaited : (cpu : ℕ) → cpu < cpus → is_in p.awaited cpu ≡ awaits cpu h
  pub online : (cpu : ℕ) → cpu < cpus → is_in p.online cpu ≡ online cpu h
