use Rattle.std.proofs.Common.{◌≡◌, ℕ, ◌≤◌, false, List, Option, sym, ◌∙◌, subst, arith}
use Rattle.std.proofs.lemmas.Bool.Decides.{nat_tests}
use Rattle.std.specs.Prelude.{slice_index}
use Rattle.rcu_seq.specs.Numbers.{snapshot}
use Rattle.rcu_seq.specs.Seq.{number_of}
use Rattle.rcu_seq.specs.Tags.{cookie_at, is_done_first, of_first_epoch}
use Rattle.rcu_live.specs.Client.{Views}
use Rattle.rcu_live.specs.Rule.{IsKept}
use Rattle.rcu_live.proofs.DoneCookies.{not_done_while_open}
use Rattle.rcu_graph.specs.declared.known.Planned.{Planned}
use Rattle.rcu_c.specs.Belonging.{IsEngineAt, Moment}
use Rattle.rcu_c.specs.Holding.{cpu_of, engine_of, grace_of}
use Rattle.rcu_c.specs.declared.contents.Contents.{Contents}
use Rattle.rcu_c.proofs.laws.sections_end_before_what_waits_for_them.Goals as goal

-- the number word is the engine's number
word_is : (now : Moment) (i : ℕ) (rcu : Option Contents) → IsEngineAt now i rcu
    → slice_index now.words 0 ≡ number_of (grace_of rcu).seq
word_is now i rcu e = sym ((e.kept.fits i (engine_of rcu).view e.here).number e.role) ∙ e.number

-- a cookie that is not done is above the number
not_reached : (taken number : ℕ) → is_done_first (cookie_at (of_first_epoch taken)) number ≡ false
    → snapshot taken ≤ number → ⊥
not_reached taken number undone reached = grind (arith, nat_tests)

-- the rule of the engine's own words, whatever map is behind them
abbrev AnyMap : List ℕ → Views Planned → Type 0
AnyMap words views = Unit {0}

of_any_map : (holds : List ℕ → Views Planned → Type 0) (cpus : ℕ) (now : Moment)
    → IsKept holds cpus now → IsKept AnyMap cpus now
of_any_map holds cpus now kept = record {
  room = kept.room;
  number = kept.number;
  boot = kept.boot;
  absent = kept.absent;
  owner = kept.owner;
  engine = kept.engine;
  own_word_loads = kept.own_word_loads;
  fits = kept.fits;
  client = tt;
}

pub returns-clause-poll : goal.returns-clause-poll
returns-clause-poll c =
    λ before after i j k l at taking polled seat later taken section done still same.
    subst (λ (p : ℕ × ℕ). is_done_first (cookie_at (of_first_epoch p.0)) p.1 ≡ false)
    (λ x. (word_is before i taking taken x, word_is after k polled done x))
    (not_done_while_open AnyMap (engine_of taking).cpus before after j l
    (cpu_of seat).view (cpu_of later).view at
    (of_any_map _ (engine_of taking).cpus before taken.kept)
    (subst (λ (n : ℕ). IsKept AnyMap n after) same
    (of_any_map _ (engine_of polled).cpus after done.kept)) section.here section.role
    section.section still.here still.role still.section)

pub returns-clause-run : goal.returns-clause-run
returns-clause-run c =
    λ before after i j k l at queueing running seat later queued section ran still same waited.
    not_reached (number_of (grace_of queueing).seq) (number_of (grace_of running).seq)
    (returns-clause-poll c before after i j k l at queueing running seat later queued section ran
    still same)
    waited.1
