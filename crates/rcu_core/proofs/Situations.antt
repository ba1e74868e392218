-- A state in the situation of a history.
use Rattle.std.proofs.Common.{◌≡◌, ℕ, ◌<◌, false, List, ◌∷◌, length, None, sym, ap, ap₂, subst, ◌∙◌}
use Rattle.std.proofs.Common.{arith, eqb, ne_eqb, inl, inr}
use Rattle.std.specs.Prelude.{nat_le}
use Rattle.std.proofs.lemmas.Bool.Decides.{nat_tests}
use Rattle.std.proofs.lemmas.Bool.{cases_eq}
use Rattle.std.proofs.lemmas.List.{get_or-set_same, get_or-set_other}
use Rattle.rcu_seq.specs.Numbers.{number_at}
use Rattle.rcu_hotplug.specs.Hotplug.{cpus_of}
use Rattle.rcu_cpu.specs.CpuData.{Call, after_call}
use Rattle.rcu_cpu.specs.CpuData.{Processor, at_first as made_processor}
use Rattle.rcu_seq.specs.Seq.{number_of, tag_of}
use Rattle.rcu_seq.specs.declared.tag.Tag.{Tag}
use Rattle.rcu_core.specs.History.{History, number, tag_now}
use Rattle.rcu_core.specs.Replies.{Size, fault_in, AreAccepted}
use Rattle.rcu_core.specs.Situation.{CpuSituation, situation}
use Rattle.rcu_core.specs.Core.{State, IsSound, Represents, size_at, says, processor, with_cpu}
use Rattle.rcu_core.specs.Core.{processor_in}
use Rattle.rcu_core.specs.declared.event.Event.{Event}

-- a state that represents a history has its situation
pub same : (v : State ℕ) (h : History) → Represents v h → says v ≡ situation h
same v h x = λ i. record {
  periods = record {
    epoch = x.periods.epoch i;
    ends = x.periods.ends i;
    running = x.periods.running i;
    needed = x.periods.needed i;
  };
  cpus = record {
    online = λ c. x.cpus.online c i;
    idle = λ c. (x.cpus.each c i).idle;
    awaits = λ c. x.cpus.awaits c i;
    depth = λ c. (x.cpus.each c i).depth;
    noted = λ c. (x.cpus.each c i).noted;
    made = x.cpus.made i;
  };
  calls = record {
    queued = x.calls.queued i;
    list = λ c. x.calls.list c i;
    barrier = x.calls.barrier i;
    owed = λ c. x.calls.owed c i;
  };
}

abbrev the_tag : ℕ → ℕ → Tag
the_tag e n = record { epoch = e; number = n }

pub number_same : (v : State ℕ) (h : History) → Represents v h → number_of v.grace.seq ≡ number h
number_same v h x = ap₂ (λ n r. number_at n r) x.periods.ends x.periods.running

pub tag_same : (v : State ℕ) (h : History) → Represents v h → tag_of v.grace.seq ≡ tag_now h
tag_same v h x = ap₂ (λ (e n : ℕ). the_tag e n) x.periods.epoch (number_same v h x)

-- one processor changes, and the others stay
pub one_changed : (cpus : List Processor) (u w : CpuSituation) (c : ℕ) (call : Call)
    → c < length cpus
    → ((k : ℕ) → processor cpus k ≡ processor_in u k)
    → after_call (processor_in u c) call ≡ processor_in w c
    → ((k : ℕ) → eqb c k ≡ false → processor_in w k ≡ processor_in u k)
    → (k : ℕ)
    → processor (with_cpu cpus c call) k ≡ processor_in w k
one_changed cpus u w c call l x at other k = elim (cases_eq k c) [
  | inl i ↦ subst (λ (j : ℕ). processor (with_cpu cpus c call) j ≡ processor_in w j) (sym i)
      (get_or-set_same cpus c (after_call (processor cpus c) call) (made_processor c false) l
      ∙ ap (λ (p : Processor). after_call p call) (x c) ∙ at)
  | inr n ↦
      get_or-set_other cpus c k (after_call (processor cpus c) call) (made_processor k false) n
      ∙ x k
      ∙ sym (other k (ne_eqb c k (λ i. n (sym i))))
]

-- the history grew by an accepted event, and the size stayed
pub longer : (v w : State ℕ) (h : History) (e : Event)
    → Represents v h
    → fault_in (size_at v) (situation h) e ≡ None
    → cpus_of w.grace.processors ≡ cpus_of v.grace.processors
    → w.grace.seq.last ≡ v.grace.seq.last
    → w.grace.lists.most ≡ v.grace.lists.most
    → AreAccepted (size_at w) (e ∷ h)
longer v w h e x p n l m =
    subst (λ (s : Size). AreAccepted s (e ∷ h))
    (λ i. record { cpus = sym n i; last = sym l i; most = sym m i }) (p, x.accepted)

-- a processor whose number is not too high exists
pub within : (v : State ℕ) (c : ℕ) → IsSound v → nat_le (cpus_of v.grace.processors) c ≡ false
    → c < length v.cpus
within v c s l = rw s.sized (grind (arith, nat_tests, l))

-- and so are its flag, its list and its visit
pub within_all : (v : State ℕ) (c : ℕ)
    → IsSound v
    → nat_le (cpus_of v.grace.processors) c ≡ false
    → (c < length v.grace.processors.online)
    × (c < length v.grace.lists.lists)
    × (c < length v.grace.lists.visited)
within_all v c s l =
    let here : c < cpus_of v.grace.processors = grind (arith, nat_tests, l) in
    (rw s.flags here, rw s.listed here, rw s.visits here)
