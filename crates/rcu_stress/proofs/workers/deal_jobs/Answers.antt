use Rattle.std.proofs.Common.{rules, ◌≡◌, ◌+◌, ◌<◌, ◌∙◌, ◌++◌, ◌∷◌, [], All, ap, arith, length}
use Rattle.std.proofs.Common.{drop, map, slice_index_or, subst, sym, vec_len}
use Rattle.std.proofs.lemmas.List.{append-nil, nil_from_length}
use Rattle.std.proofs.lemmas.List.Elements.{All-cons, All-nil, All-push, All-same}
use Rattle.std.specs.Iterator.Adapters.{zip_first, zip_second}
use Rattle.std.specs.Vec.Iter.{into_iter_items}
use Rattle.rcu_stress.specs.Draws.{generator_of}
use Rattle.rcu_stress.proofs.TortureLemmas.{each_is_below, first_and_rest_are, next_is_dealt}
use Rattle.rcu_stress.proofs.TortureLemmas.{range_from_0}
use Rattle.rcu_stress.proofs.workers.deal_jobs.Goals as goal

pub loop-seat-init : goal.loop-seat-init
loop-seat-init g c =
    let taken = c.in-Some.ensures.steps in
    let started = c.into_iter-seat-iterator.ensures.into_iter_gives in
    let dealt = c.requires.seats in
    let firsts = ap into_iter_items c.zip-pairs.ensures.first ∙ c.into_iter.ensures.rest in
    let seats = sym firsts ∙ taken.0.0 in
    let watchers = sym c.zip-pairs.ensures.second.0 ∙ taken.1.0 in
    let each_seat =
    (first_and_rest_are (λ seat. seat.table ≡ c.args.live.now.table) seats dealt.each_seat).1 in
    let each_cpu =
    (first_and_rest_are (λ seat. seat.cpu < c.args.settings.workers) seats
    (each_is_below (λ seat. seat.cpu) c.args.settings.workers c.args.seats.items dealt.cpus)).1 in
    let cpus =
    ap (map (λ seat. seat.cpu)) (sym seats) ∙ dealt.cpus
    ∙ range_from_0 c.args.settings.workers c.requires.some in
    let none = c.in-Ok.ensures.items in
    let each_watcher =
    (first_and_rest_are (λ watcher. watcher.table ≡ c.args.live.now.table) watchers
    dealt.each_watcher).1 in
    record {
      next = (tt, tt);
      finite = tt;
      room = search rules;
      seats_left = search rules;
      watchers_left = search rules;
      workers =
          ap (λ jobs. map (λ job. job.worker) jobs ++ map (λ seat. seat.cpu)
          (into_iter_items (zip_first c.into_iter-seat-iterator.result))) none
          ∙ ap (λ it. map (λ seat. seat.cpu) (into_iter_items (zip_first it))) started
          ∙ ap (drop 1) cpus;
      each_settings = All-same (λ job. job.settings ≡ c.args.settings) c.in-Ok.others.items [] none
          (All-nil (λ job. job.settings ≡ c.args.settings));
      each_draws =
          All-same (λ job. job.draws ≡ generator_of c.args.settings.seed job.worker)
          c.in-Ok.others.items [] none
          (All-nil (λ job. job.draws ≡ generator_of c.args.settings.seed job.worker));
      each_seat = subst (λ it. All (λ seat. seat.table ≡ c.args.live.now.table)
          (into_iter_items (zip_first it))) (sym started) each_seat;
      each_cpu = subst (λ it. All (λ seat. seat.cpu < c.args.settings.workers)
          (into_iter_items (zip_first it))) (sym started) each_cpu;
      each_watcher = subst (λ it. All (λ watcher. watcher.table ≡ c.args.live.now.table)
          (into_iter_items (zip_second it))) (sym started) each_watcher;
    }

pub new-job-requires-clause-seat : goal.new-job-requires-clause-seat
new-job-requires-clause-seat g c =
    (first_and_rest_are (λ seat. seat.table ≡ c.args.live.now.table)
    c.in-Some-2.ensures.steps.0.0 c.loop-seat.invariant.each_seat).0

pub new-job-requires-clause-worker : goal.new-job-requires-clause-worker
new-job-requires-clause-worker g c =
    (first_and_rest_are (λ seat. seat.cpu < c.args.settings.workers)
    c.in-Some-2.ensures.steps.0.0 c.loop-seat.invariant.each_cpu).0

pub new-job-requires-clause-watcher : goal.new-job-requires-clause-watcher
new-job-requires-clause-watcher g c =
    (first_and_rest_are (λ watcher. watcher.table ≡ c.args.live.now.table)
    c.in-Some-2.ensures.steps.1.0 c.loop-seat.invariant.each_watcher).0

pub loop-seat-preserved : goal.loop-seat-preserved
loop-seat-preserved g c =
    let taken = c.in-Some-2.ensures.steps in
    let kept = c.loop-seat.invariant in
    let pushed = c.push_reserved.ensures in
    let jobs = c.loop-seat.others.items in
    let job = c.arrive.new.self in
    let worker = ap (λ j. j.worker) c.arrive.ensures.rest ∙ ap (λ j. j.worker) c.new-job.ensures in
    let settings =
    ap (λ j. j.settings) c.arrive.ensures.rest ∙ ap (λ j. j.settings) c.new-job.ensures in
    let draws = ap (λ j. j.draws) c.arrive.ensures.rest ∙ ap (λ j. j.draws) c.new-job.ensures
    ∙ sym (ap (generator_of c.args.settings.seed) worker) in
    record {
      next = (tt, tt);
      finite = tt;
      room = pushed.capacity ∙ kept.room;
      seats_left = omega (arith, pushed.len, taken.0.1, kept.seats_left);
      watchers_left = omega (arith, pushed.len, taken.1.1, kept.watchers_left);
      workers = next_is_dealt (λ j. j.worker) (λ seat. seat.cpu) jobs job pushed.items taken.0.0
          worker kept.workers;
      each_settings = subst (All (λ j. j.settings ≡ c.args.settings)) (sym pushed.items)
          (All-push (λ j. j.settings ≡ c.args.settings) jobs job kept.each_settings settings);
      each_draws =
          subst (All (λ j. j.draws ≡ generator_of c.args.settings.seed j.worker))
          (sym pushed.items)
          (All-push (λ j. j.draws ≡ generator_of c.args.settings.seed j.worker) jobs job
          kept.each_draws draws);
      each_seat =
          (first_and_rest_are (λ seat. seat.table ≡ c.args.live.now.table)
          taken.0.0 kept.each_seat).1;
      each_cpu =
          (first_and_rest_are (λ seat. seat.cpu < c.args.settings.workers)
          taken.0.0 kept.each_cpu).1;
      each_watcher =
          (first_and_rest_are (λ watcher. watcher.table ≡ c.args.live.now.table)
          taken.1.0 kept.each_watcher).1;
    }

pub returns-clause-jobs : goal.returns-clause-jobs
returns-clause-jobs g c =
    let dealt = c.requires.seats in
    let kept = c.loop-seat.invariant in
    let jobs = c.loop-seat.others.items in
    let rest = into_iter_items (zip_first c.loop-seat.seat-iterator) in
    let firsts = ap into_iter_items c.zip-pairs.ensures.first ∙ c.into_iter.ensures.rest in
    let seats = sym firsts ∙ c.in-Some.ensures.steps.0.0 in
    let cpus =
    ap (map (λ seat. seat.cpu)) (sym seats) ∙ dealt.cpus
    ∙ range_from_0 c.args.settings.workers c.requires.some in
    let first = c.new-first.ensures in
    let worker =
    ap (λ j. j.worker) first ∙ ap (λ ks. slice_index_or ks 0 0) cpus in
    let all : vec_len c.loop-seat.others + 1 ≡ c.args.settings.workers = search rules in
    let none : length rest ≡ 0 = omega (arith, all, kept.seats_left) in
    let others =
    sym (append-nil (map (λ j. j.worker) jobs))
    ∙ ap (λ xs. map (λ j. j.worker) jobs ++ map (λ seat. seat.cpu) xs)
    (sym (nil_from_length rest none))
    ∙ kept.workers in
    record {
      workers =
          ap (λ k. k ∷ map (λ j. j.worker) jobs) worker ∙ ap (λ ks. 0 ∷ ks) others
          ∙ sym (range_from_0 c.args.settings.workers c.requires.some);
      each_settings =
          All-cons (λ j. j.settings ≡ c.args.settings) c.new-first.result jobs
          (ap (λ j. j.settings) first) kept.each_settings;
      each_draws =
          All-cons (λ j. j.draws ≡ generator_of c.args.settings.seed j.worker) c.new-first.result
          jobs
          (ap (λ j. j.draws) first
          ∙ sym (ap (generator_of c.args.settings.seed) (ap (λ j. j.worker) first)))
          kept.each_draws;
    }
