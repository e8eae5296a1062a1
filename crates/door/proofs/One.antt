-- One outcome for one input, of each call of the library. Assumes nothing.
use mathlib.Core.Path.{sym, ◌∙◌}
use Rattle.door.specs.Answers.{OneAfresh, OneAnswer, OneTold, OneToldParked, OneToldUnparked}

pub one_afresh : OneAfresh
one_afresh W H before r r' after after' p q = (p.number ∙ sym q.number, p.bytes ∙ sym q.bytes)

pub one_answer : OneAnswer
one_answer W H page stream state allowance place n n₁ page' page₁ state' state₁ place' place₁ done done₁ finding finding₁ found found₁ ended ended₁ p q = (
  p.number ∙ sym q.number,
  p.page_is ∙ sym q.page_is,
  p.state_is ∙ sym q.state_is,
  p.place_is ∙ sym q.place_is,
  p.done_is ∙ sym q.done_is,
  p.finding_is ∙ sym q.finding_is,
  p.found_is ∙ sym q.found_is,
  p.ended_is ∙ sym q.ended_is,
)

pub one_told : OneTold
one_told W H stream room n n₁ room' room₁ long long₁ p q = (p.number ∙ sym q.number, p.room_is ∙ sym q.room_is, p.length_is ∙ sym q.length_is)

pub one_told-parked : OneToldParked
one_told-parked W H state room n n₁ room' room₁ long long₁ p q = (p.number ∙ sym q.number, p.room_is ∙ sym q.room_is, p.length_is ∙ sym q.length_is)

pub one_told_unparked : OneToldUnparked
one_told_unparked text W H state n n₁ W' W₁ H' H₁ state' state₁ p q = (p.number ∙ sym q.number, p.wide_is ∙ sym q.wide_is, p.high_is ∙ sym q.high_is, p.state_is ∙ sym q.state_is)
