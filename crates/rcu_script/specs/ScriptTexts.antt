-- The texts of replies.
use Rattle.std.specs.Prelude.{ℕ, ◌==◌, Bool, true, false, List, [], ◌∷◌, ◌++◌, flat_map, codes}
use Rattle.std.specs.Prelude.{decimal, if◌then◌else◌}
use Rattle.rcu_seq.specs.Fault.{fault_number}
use Rattle.rcu_seq.specs.declared.cookie.Cookie.{Cookie}
use Rattle.rcu_node.specs.declared.awaited.Answer.{Answer}
use Rattle.rcu_node.specs.declared.awaited.Answer.TheVariants.{Taken, Last, Repeat, Stale}
use Rattle.rcu_report.specs.declared.batch.Report.{Report}
use Rattle.rcu_barrier.specs.declared.lists.Visit.{Visit}
use Rattle.rcu_barrier.specs.declared.lists.Visit.TheVariants.{Marked, Empty, Already}
use Rattle.rcu_core.specs.declared.reply.Reply.{Reply}
use Rattle.rcu_core.specs.declared.reply.Reply.TheVariants.{Depth, Noted, Made, Answer as Answered}
use Rattle.rcu_core.specs.declared.reply.Reply.TheVariants.{Online, Moved, Begun, Ended, Waiting}
use Rattle.rcu_core.specs.declared.reply.Reply.TheVariants.{Nothing, Awaits, Cookie as Told, Polled}
use Rattle.rcu_core.specs.declared.reply.Reply.TheVariants.{Queued, Tended, Ran, BarBegun, Visited}
use Rattle.rcu_core.specs.declared.reply.Reply.TheVariants.{BarDone, BarWaits, Renumbered, Idle}
use Rattle.rcu_core.specs.declared.reply.Reply.TheVariants.{Awake, Fault}
use Rattle.rcu_text.specs.Texts.{numbered_text, space_and_number}

-- the noted number: it is needed if the processor is awaited
abbrev pub noted_text : ℕ → Bool → List ℕ
noted_text n true = codes "noted " ++ (decimal n ++ codes " needed\n")
noted_text n false = codes "noted " ++ (decimal n ++ codes " clear\n")

-- the end of a line with a number of an epoch: the epoch, if it is not the first one
abbrev pub epoch_text : ℕ → List ℕ
epoch_text epoch = if epoch == 0 then codes "\n" else numbered_text (codes " epoch ") epoch

-- a report and its place among all reports
abbrev pub made_text : ℕ → Report → List ℕ
made_text place report =
    codes "report " ++ (decimal place ++ (codes " cpu " ++ (decimal report.cpu
    ++ (codes " tag " ++ (decimal report.tag.number ++ epoch_text report.tag.epoch)))))

-- the word for the answer to a report or a scan
abbrev pub answer_text : Answer → List ℕ
answer_text Taken = codes "taken\n"
answer_text Last = codes "last\n"
answer_text Repeat = codes "repeat\n"
answer_text Stale = codes "stale\n"

-- the grace period that began, and how many processors it awaits
abbrev pub begun_text : ℕ → ℕ → List ℕ
begun_text n cpus =
    codes "begun " ++ (decimal n ++ (codes " awaits " ++ (decimal cpus ++ codes "\n")))

-- a word and the numbers that are listed behind it, or `none`
abbrev pub listed_text : List ℕ → List ℕ → List ℕ
listed_text word [] = word ++ codes " none\n"
listed_text word (item ∷ items) = word ++ (flat_map space_and_number (item ∷ items) ++ codes "\n")

-- the cookie that was taken
abbrev pub cookie_text : Cookie → List ℕ
cookie_text cookie = codes "cookie " ++ (decimal cookie.number ++ epoch_text cookie.epoch)

-- whether a cookie is done
abbrev pub polled_text : Bool → List ℕ
polled_text true = codes "done\n"
polled_text false = codes "not yet\n"

-- how many callbacks of a list are done, and how many wait
abbrev pub tended_text : ℕ → ℕ → List ℕ
tended_text done waiting =
    codes "tended " ++ (decimal done ++ (codes " " ++ (decimal waiting ++ codes "\n")))

-- the word for the result of a visit
abbrev pub visited_text : Visit → List ℕ
visited_text Marked = codes "marked\n"
visited_text Empty = codes "empty\n"
visited_text Already = codes "already\n"

-- the line of a reply
abbrev pub text_of : Reply → List ℕ
text_of (Depth depth) = numbered_text (codes "depth ") depth
text_of (Noted n needed) = noted_text n needed
text_of (Made place report) = made_text place report
text_of (Answered answer) = answer_text answer
text_of Online = codes "online\n"
text_of (Moved calls) = numbered_text (codes "offline moved ") calls
text_of (Begun n cpus) = begun_text n cpus
text_of (Ended n) = numbered_text (codes "ended ") n
text_of (Waiting cpus) = numbered_text (codes "waiting ") cpus
text_of Nothing = codes "nothing\n"
text_of (Awaits cpus) = listed_text (codes "awaits") cpus
text_of (Told cookie) = cookie_text cookie
text_of (Polled done) = polled_text done
text_of (Queued n) = numbered_text (codes "queued ") n
text_of (Tended done waiting) = tended_text done waiting
text_of (Ran values) = listed_text (codes "ran") values
text_of BarBegun = codes "barrier begun\n"
text_of (Visited visit) = visited_text visit
text_of BarDone = codes "barrier done\n"
text_of (BarWaits n) = numbered_text (codes "barrier waits ") n
text_of (Renumbered epoch) = numbered_text (codes "epoch ") epoch
text_of Idle = codes "idle\n"
text_of Awake = codes "awake\n"
text_of (Fault fault) = numbered_text (codes "fault ") (fault_number fault)
