use Rattle.rcu_live.proofs.Meetings.{not_done}
use Rattle.rcu_live.proofs.laws.done_cookies_are_older_than_the_section_met.Goals as goal

pub returns : goal.returns
returns c = λ met at taken polled meets up low. not_done at met.seen taken polled meets.1 up low
