-- The notices of one door that wait. Assumes nothing.
use Rattle.std.specs.Prelude.{Some, None}
use Rattle.events.specs.PerTransition.{with_transition}
use Rattle.notices.specs.declared.notice.Notice.{Notice}
use Rattle.notices.specs.declared.waiting.Waiting.{Waiting}

abbrev pub none_waiting : Waiting
none_waiting = record { notices = record { to_offnormal = None; to_fault = None; to_normal = None } }

-- a notice takes the place of its transition
abbrev pub with_notice : Waiting → Notice → Waiting
with_notice w n = record { notices = with_transition w.notices n.transition (Some n) }
