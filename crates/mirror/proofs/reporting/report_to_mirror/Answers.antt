use Rattle.mirror.proofs.Written.{reads_back}
use Rattle.mirror.proofs.reporting.report_to_mirror.Goals as goal

pub returns : goal.returns
returns c =
    record {
      value = c.write_changes.ensures.value;
      after = c.write_changes.ensures.after;
      back = reads_back c.args.last.now c.args.rows.now c.write_changes.result c.write_changes.new.buffer c.args.buffer.now c.write_changes.ensures.value c.write_changes.ensures.after;
    }
