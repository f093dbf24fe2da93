use Rattle.std.proofs.Common.{◌∙◌, sym, ap, Some}
use Rattle.ft12.specs.declared.frame.Frame.{Frame}
use Rattle.link.proofs.Assembling.{frame_of, fed_so, quiet}
use Rattle.link.proofs.master.frame_in.Goals as goal

pub returns-in-Frame-clause-frame : goal.returns-in-Frame-clause-frame
returns-in-Frame-clause-frame c =
    let fed = fed_so c.front_is_computed.ensures.only _ _ _ _ _ _
    (record { listening = c.feed.ensures.listening; deaf = c.feed.ensures.deaf }) in
    ap (λ (f : Frame). Some f) c.in-Frame.frame-is ∙ sym (ap frame_of c.in-Frame.is) ∙ fed.0

pub returns-in-Frame-clause-so_far : goal.returns-in-Frame-clause-so_far
returns-in-Frame-clause-so_far c =
    let fed = fed_so c.front_is_computed.ensures.only _ _ _ _ _ _
    (record { listening = c.feed.ensures.listening; deaf = c.feed.ensures.deaf }) in
    fed.1

pub returns-in-More : goal.returns-in-More
returns-in-More c =
    let fed = fed_so c.front_is_computed.ensures.only _ _ _ _ _ _
    (record { listening = c.feed.ensures.listening; deaf = c.feed.ensures.deaf }) in
    record {
      frame = sym (quiet _ c.in-More.is) ∙ fed.0;
      so_far = fed.1;
      size =
          c.feed.ensures.size;
    }
