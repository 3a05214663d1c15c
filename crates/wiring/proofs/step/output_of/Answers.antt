use Rattle.std.proofs.Common.{codes, arith, sym, ap}
use Rattle.std.proofs.lemmas.Slice.Eq.{text_from_reads}
use Rattle.wiring.specs.Step.{output_said}
use Rattle.wiring.proofs.step.output_of.Goals as goal

pub returns-in-released : goal.returns-in-released
returns-in-released c =
    sym (ap output_said (text_from_reads c.args.word.now (codes "released") (omega arith) (omega arith, (omega arith, (omega arith, (omega arith, (omega arith, (omega arith, (omega arith, (omega arith, tt))))))))))
