use Rattle.slot_marks.proofs.naming.mark_name.Goals as goal

pub returns-in-Good-clause-marks : goal.returns-in-Good-clause-marks
returns-in-Good-clause-marks g c = rw c.in-Good.is (record {
  leaves = c.mark_good.ensures.leaves;
  others = c.mark_good.ensures.others;
  leads = c.mark_good.ensures.leads;
  causes = c.mark_good.ensures.causes;
  fails = c.mark_good.ensures.fails;
})

pub returns-in-Bad-clause-marks : goal.returns-in-Bad-clause-marks
returns-in-Bad-clause-marks g c = rw c.in-Bad.is (record {
  leaves = c.mark_bad.ensures.leaves;
  others = c.mark_bad.ensures.others;
  leads = c.mark_bad.ensures.leads;
  causes = c.mark_bad.ensures.causes;
  fails = c.mark_bad.ensures.fails;
})

pub returns-in-Active-clause-marks : goal.returns-in-Active-clause-marks
returns-in-Active-clause-marks g c = rw c.in-Active.is (record {
  leaves = c.make_primary.ensures.leaves;
  others = c.make_primary.ensures.others;
  leads = c.make_primary.ensures.leads;
  causes = c.make_primary.ensures.causes;
  fails = c.make_primary.ensures.fails;
})
