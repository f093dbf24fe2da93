use Rattle.delivery.proofs.OneStep.{requests, closes, octets, closed, told, told_late}
use Rattle.delivery.proofs.sending.each_step_asks_and_closes_once.Goals as goal

pub returns : goal.returns
returns c = record {
  requests = λ settings newer actions older now at second first f are.
      requests newer actions older now at are second first
      (c.steps_keep_their_order.ensures.settings settings _ f);
  closes = λ settings newer actions older now at second first f are.
      closes newer actions older now at are second first
      (c.steps_keep_their_order.ensures.settings settings _ f);
  octets = λ settings newer actions older now at sent cause f are.
      octets newer actions older now at are sent cause
      (c.steps_keep_their_order.ensures.settings settings _ f);
  closed = λ settings newer actions older now at cause asked f are.
      closed newer actions older now at are cause asked
      (c.steps_keep_their_order.ensures.settings settings _ f);
  told = λ settings newer actions older now at station session asked f are.
      told newer actions older now at are station session asked
      (c.steps_keep_their_order.ensures.settings settings _ f);
  late = λ settings newer actions older now at station session f are.
      told_late newer actions older now at are station session
      (c.steps_keep_their_order.ensures.settings settings _ f);
}
