use Rattle.std.proofs.Common.{◌≤◌, length}
use Rattle.report.specs.Writing.{report_below}
use Rattle.report.proofs.Grow.{Front}
use Rattle.report.proofs.write.write_report.Given as goal

abbrev pub invariant-loop-door : goal.invariant-loop-door
invariant-loop-door l = record {
  written : Front l.initial.buffer l.buffer (report_below l.last l.rows (length l.yielded)) l.at;
  fits : l.at ≤ length l.initial.buffer;
}
