use Rattle.wire_value.proofs.reading.body_of.Goals as goal

pub invariant_of-inside : goal.invariant_of-inside
invariant_of-inside c = record { fits = c.in_ok-front.ensures.inside; small = c.in_ok-front.ensures.small }
