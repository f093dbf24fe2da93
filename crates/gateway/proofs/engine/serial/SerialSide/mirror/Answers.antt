use Rattle.std.proofs.Common.{false, ap, sym, ◌∙◌, subst}
use Rattle.asdu.specs.Asdu.{AsduValue}
use Rattle.asdu.specs.Reading.{value_of}
use Rattle.command.specs.State as tasks
use Rattle.command.specs.Mirrors.{tag_for}
use Rattle.gateway.specs.Tags.{AreTagged}
use Rattle.events.specs.Queue.{octets_of}
use Rattle.gateway.specs.declared.counts.Tally.{Tally}
use Rattle.gateway.specs.Serial.{Serial, kept_until, all_kept, mirrored, mirror_fits}
use Rattle.gateway.proofs.Kept.{passed_on, mirrors}
use Rattle.gateway.proofs.Tagged.{are_asdus}
use Rattle.gateway.proofs.engine.serial.SerialSide.mirror.Goals as goal

pub returns-then-is_transferring : goal.returns-then-is_transferring
returns-then-is_transferring c =
    let a = c.self.inside in
    let s : Serial = record {
      line = a.line;
      commands = a.commands;
      counts = a.counts;
      silent = a.silent;
      gap =
          a.gap;
    } in
    let asdu = c.args.asdu.now in
    let v : AsduValue = value_of asdu in
    let ps = c.translate-pieces.result.items in
    let qs = c.tag_pieces.new.pieces.items in
    let tagged : AreTagged (tag_for v v.infos s.commands) (octets_of ps) (octets_of qs) =
    subst (λ tag. AreTagged tag (octets_of ps) (octets_of qs)) c.mirror-tag.ensures.tag
    c.tag_pieces.ensures.tagged in
    let at = c.args.moment in
    rw (← c.self.view_is) (mirrors s _ at c.args.is_transferring asdu.sizes v asdu.octets.now ps
    (octets_of qs) c.keep_all.result c.objects_are_those_of_the_asdu.ensures.monitor_objects
    (passed_on asdu.sizes v asdu.octets.now ps c.requires.found c.translate-pieces.ensures.joined
    c.translate-pieces.ensures.pieces c.translate-pieces.ensures.full
    c.translate-pieces.ensures.number) tagged
    c.translate-pieces.ensures.monitored c.requires.plain
    (ap (λ (k : tasks.State). let made : Serial = record s { commands = k } in
    made) (c.keep_all.ensures.state
    ∙ ap (λ xs. kept_until (octets_of xs) c.mirror-tag.new.self) c.deref.ensures.0
    ∙ ap (λ k. kept_until (octets_of qs) k) c.mirror-tag.ensures.state)
    ∙ ap (λ b. mirrored at b v (octets_of qs) s) (sym c.if-is_transferring.true))
    (c.keep_all.ensures.all ∙ ap (λ xs. all_kept (octets_of xs) c.mirror-tag.new.self)
    c.deref.ensures.0
    ∙ ap (λ k. all_kept (octets_of qs) k) c.mirror-tag.ensures.state
    ∙ ap (λ b. mirror_fits at b v (octets_of qs) s) (sym c.if-is_transferring.true)))

pub returns : goal.returns
returns c =
    let a = c.self.inside in
    let s : Serial = record {
      line = a.line;
      commands = a.commands;
      counts = a.counts;
      silent = a.silent;
      gap =
          a.gap;
    } in
    let asdu = c.args.asdu.now in
    let v : AsduValue = value_of asdu in
    let ps = c.translate-pieces.result.items in
    let qs = c.tag_pieces.new.pieces.items in
    let tagged : AreTagged (tag_for v v.infos s.commands) (octets_of ps) (octets_of qs) =
    subst (λ tag. AreTagged tag (octets_of ps) (octets_of qs)) c.mirror-tag.ensures.tag
    c.tag_pieces.ensures.tagged in
    let at = c.args.moment in
    rw (← c.self.view_is) (mirrors s _ at c.args.is_transferring asdu.sizes v asdu.octets.now ps
    (octets_of qs) _ c.objects_are_those_of_the_asdu.ensures.monitor_objects
    (passed_on asdu.sizes v asdu.octets.now ps c.requires.found c.translate-pieces.ensures.joined
    c.translate-pieces.ensures.pieces c.translate-pieces.ensures.full
    c.translate-pieces.ensures.number) tagged
    c.translate-pieces.ensures.monitored c.requires.plain
    (ap (λ (k : tasks.State). let made : Serial =
    record s { commands = k; counts = c.mirror.new.self } in
    made) c.mirror-tag.ensures.state
    ∙ ap (λ (n : Tally). let made : Serial = record (mirrored at false v (octets_of qs) s)
    { counts = n } in
    made) c.mirror.ensures
    ∙ ap (λ b. mirrored at b v (octets_of qs) s) (sym c.if-is_transferring.false))
    (ap (λ b. mirror_fits at b v (octets_of qs) s) (sym c.if-is_transferring.false)))

pub tag_pieces-requires-clause-asdus : goal.tag_pieces-requires-clause-asdus
tag_pieces-requires-clause-asdus c =
    are_asdus (value_of c.args.asdu.now) c.translate-pieces.result.items
    c.translate-pieces.ensures.pieces
