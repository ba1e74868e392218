use Rattle.std.proofs.Common.{◌≡◌, ◌∙◌, ap, sym}
use Rattle.rcu_map.specs.Keys.{key_in}
use Rattle.rcu_map.proofs.Compares.{none_removed, removed_of}
use Rattle.rcu_map.proofs.writer.MapWriter.compare_remove.Goals as goal

pub returns-in-Gone : goal.returns-in-Gone
returns-in-Gone g c =
    let to = c.to_words-words.ensures in
    let keyed : g.E.Entry.key_of c.args.read ≡ key_in c.to_words-words.result =
    ap g.E.Entry.key_of (sym to.inverse) ∙ g.met.E.Entry.tells c.to_words-words.result to.whole in
    rw (keyed, sym to.words)
    (none_removed g.E.Value.decode g.E.Value.valid g.E.Entry.key_of g.E.Invariant.holds
    c.args.self.now c.compare_remove_words.new.self (key_in c.to_words-words.result)
    c.to_words-words.result c.in-Gone.ensures.removed)

pub returns-in-Same : goal.returns-in-Same
returns-in-Same g c =
    let to = c.to_words-words.ensures in
    let keyed : g.E.Entry.key_of c.args.read ≡ key_in c.to_words-words.result =
    ap g.E.Entry.key_of (sym to.inverse) ∙ g.met.E.Entry.tells c.to_words-words.result to.whole in
    let done = c.in-Same.ensures.removed in
    let words = c.compare_remove_words.new.read in
    let told = sym to.inverse
    ∙ ap g.E.Value.decode (sym (c.in-Same.ensures.unchanged (λ e. absurd (cc)))) in
    rw (keyed, sym to.words)
    (removed_of g.E.Value.decode g.E.Value.valid g.E.Entry.key_of g.E.Invariant.holds
    c.args.self.now c.compare_remove_words.new.self (key_in c.to_words-words.result)
    c.to_words-words.result words c.args.read told (g.met.E.Entry.tells words done.had.sound)
    c.requires.sound done)

pub returns-in-Changed : goal.returns-in-Changed
returns-in-Changed g c =
    let to = c.to_words-words.ensures in
    let keyed : g.E.Entry.key_of c.args.read ≡ key_in c.to_words-words.result =
    ap g.E.Entry.key_of (sym to.inverse) ∙ g.met.E.Entry.tells c.to_words-words.result to.whole in
    let done = c.in-Changed.ensures.removed in
    let words = c.compare_remove_words.new.read in
    rw (keyed, sym to.words)
    (removed_of g.E.Value.decode g.E.Value.valid g.E.Entry.key_of g.E.Invariant.holds
    c.args.self.now c.compare_remove_words.new.self (key_in c.to_words-words.result)
    c.to_words-words.result words c.of_words.result c.of_words.ensures.told
    (g.met.E.Entry.tells words done.had.sound) c.of_words.ensures.sound done)
