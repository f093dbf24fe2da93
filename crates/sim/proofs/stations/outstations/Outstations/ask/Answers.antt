use Rattle.std.proofs.Common.{◌≡◌, ℕ, List, [], length, ap, sym, subst, ◌∙◌, arith}
use Rattle.std.specs.Prelude.{unwrap_or}
use Rattle.ft12.specs.Spelling.{spelling}
use Rattle.link.specs.Secondary.{Secondary}
use Rattle.sim.specs.Lives.{IsPutOut, arriving}
use Rattle.sim.specs.Losses.{fate_of}
use Rattle.sim.specs.declared.directive.RequestFate.{RequestFate}
use Rattle.sim.specs.Exchanges.{OutstationsState, next_number}
use Rattle.sim.proofs.RequestsReceived.{comes_back_so}
use Rattle.sim.proofs.Sizes.{HaveSize, length_out, sizes_out, written_back}
use Rattle.sim.proofs.stations.outstations.Outstations.ask.Goals as goal

pub arriving-requires : goal.arriving-requires
arriving-requires c =
    c.put_out-reply.ensures.fits c.self.inside.size
    (subst (λ (ss : List Secondary). HaveSize c.self.inside.size ss)
    (sym c.as_mut_slice.ensures.value) c.self.invariant.sizes)

pub invariant_of-self : goal.invariant_of-self
invariant_of-self c =
    let before : List Secondary = c.self.inside.stations.items in
    let after : List Secondary = c.put_out-reply.new.stations in
    let out : IsPutOut c.fate-fate.result c.as_slice.result.now before
    c.put_out-reply.result after =
    subst (λ (ss : List Secondary). IsPutOut c.fate-fate.result c.as_slice.result.now ss
    c.put_out-reply.result after) c.as_mut_slice.ensures.value c.put_out-reply.ensures.out in
    let same : length after ≡ length before =
    length_out c.fate-fate.result c.as_slice.result.now before after c.put_out-reply.result out in
    record {
      addresses = c.self.invariant.addresses;
      sizes = subst (λ (ss : List Secondary). HaveSize c.self.inside.size ss)
          (sym (written_back before after c.self.inside.stations.len
          (omega (arith, same, c.self.inside.stations.ok.0, c.self.inside.stations.ok.1))))
          (sizes_out c.station_is_an_outstation.ensures.size c.self.inside.size c.fate-fate.result
          c.as_slice.result.now before after c.put_out-reply.result out c.self.invariant.sizes);
      lines = c.self.invariant.lines;
      line = c.self.invariant.line;
      listening = c.self.invariant.listening;
    }

pub returns : goal.returns
returns c =
    let before : List Secondary = c.self.inside.stations.items in
    let after : List Secondary = c.put_out-reply.new.stations in
    let view : OutstationsState = record {
      size = c.self.inside.size;
      sizes = c.self.inside.sizes;
      directives = c.self.inside.script;
      cues = c.self.inside.cues.items;
      stations = before;
      had = c.self.inside.had.items;
      progress = c.self.inside.progress.items;
      requests = c.self.inside.requests;
      late = c.self.inside.late;
      so_far = unwrap_or c.self.inside.line.so_far [];
    } in
    let out : IsPutOut c.fate-fate.result c.as_slice.result.now before
    c.put_out-reply.result after =
    subst (λ (ss : List Secondary). IsPutOut c.fate-fate.result c.as_slice.result.now ss
    c.put_out-reply.result after) c.as_mut_slice.ensures.value c.put_out-reply.ensures.out in
    let same : length after ≡ length before =
    length_out c.fate-fate.result c.as_slice.result.now before after c.put_out-reply.result out in
    let number : c.saturating_add-self-inside.result ≡ next_number view =
    c.saturating_add-self-inside.ensures in
    let fate : c.fate-fate.result ≡ fate_of view.directives (next_number view) =
    c.fate-fate.ensures ∙ ap (λ (n : ℕ). fate_of view.directives n) number in
    let octets : c.as_slice.result.now ≡ spelling view.size c.args.request.now =
    c.as_slice.ensures.value ∙ c.encode-octets.ensures in
    comes_back_so view _ c.self.view_is _ _ _ (record {
      reply = c.put_out-reply.result;
      stations = after;
      received =
          subst (λ (f : RequestFate). IsPutOut f (spelling view.size c.args.request.now) before
          c.put_out-reply.result after) fate
          (subst (λ (o : List ℕ). IsPutOut c.fate-fate.result o before c.put_out-reply.result after)
          octets out);
      answered = c.arriving.ensures
          ∙ ap (λ (f : RequestFate). arriving view.size f c.put_out-reply.result) fate;
      new_is = ap (λ (ss : List Secondary).
          record view { stations = ss; requests = c.saturating_add-self-inside.result })
          (written_back before after c.self.inside.stations.len
          (omega (arith, same, c.self.inside.stations.ok.0, c.self.inside.stations.ok.1)))
          ∙ ap (λ (n : ℕ). record view { stations = after; requests = n }) number;
    })
