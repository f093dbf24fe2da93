use Rattle.gateway.proofs.OneCourse as one
use Rattle.gateway.proofs.laws.one_course.Goals as goal

pub returns-clause-so_far : goal.returns-clause-so_far
returns-clause-so_far c = one.one_course (record {
  unique = record { front = c.one_front.ensures; cancel = c.spellings_cancel.ensures };
  asdus = record {
    one_asdu = c.one_asdu_one_spelling.ensures.one_asdu;
    one_spelling =
        c.one_asdu_one_spelling.ensures.one_spelling;
    objects = c.objects_are_those_of_the_asdu.ensures.objects;
  };
  line = c.line_keeps_the_procedures.ensures;
})

pub returns-clause-whole : goal.returns-clause-whole
returns-clause-whole c = one.one_whole (record {
  unique = record { front = c.one_front.ensures; cancel = c.spellings_cancel.ensures };
  asdus = record {
    one_asdu = c.one_asdu_one_spelling.ensures.one_asdu;
    one_spelling =
        c.one_asdu_one_spelling.ensures.one_spelling;
    objects = c.objects_are_those_of_the_asdu.ensures.objects;
  };
  line = c.line_keeps_the_procedures.ensures;
})
