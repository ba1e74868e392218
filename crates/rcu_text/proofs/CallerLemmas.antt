-- Lemmas for callers: about the public definitions of lines and of outputs.
pub use Rattle.rcu_text.proofs.CutLemmas.{cut_append, cut_end, Closes, closes_behind, closed}
pub use Rattle.rcu_text.proofs.LineLemmas.{line_alike}
pub use Rattle.rcu_text.proofs.OutputLemmas.{Sends-nil, Sends-trans, Sends-Stops, Stops-before}
pub use Rattle.rcu_text.proofs.OutputLemmas.{Stops-BreaksOff, puts_two, writes_flushed, waits}
pub use Rattle.rcu_text.proofs.OutputLemmas.{put_twice, sends_behind, stops_before_text, item_sent}
pub use Rattle.rcu_text.proofs.OutputLemmas.{item_stops, list_stops, list_put}
pub use Rattle.rcu_text.proofs.PrintableLemmas.{is_word, named, number_printable, words_printable}
