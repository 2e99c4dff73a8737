use Rattle.reader.proofs.Granted.{faults_lie_in_the_file, rows_are_counted}
use Rattle.reader.proofs.Skipped.{skipped_boxes_change_nothing}
use Rattle.reader.proofs.read.read.Goals as goal

pub returns : goal.returns
returns c =
    record {
      answer = c.read_page.ensures.answer;
      plan = c.read_page.ensures.plan;
      laws = (faults_lie_in_the_file, rows_are_counted, skipped_boxes_change_nothing);
    }
