-- A look at a connection that is open.
use Rattle.std.proofs.Common.{◌≡◌, ℕ, List, [], Some, None, sym, ap, subst, ◌∙◌}
use Rattle.std.specs.declared.net.ip_addr.IpAddr.{IpAddr}
use Rattle.live.specs.OctetStreams.{StreamHistory, noted, looked}
use Rattle.live.specs.Ends.{LiveEnds, Peer, of_open, peer_read}
use Rattle.live.specs.Looks.{LooksAt}
use Rattle.live.proofs.Plain.{no_strangers}
use Rattle.live.specs.declared.found.SourceEvent.TheVariants.{Bytes}
use Rattle.live.specs.declared.source.EventSource.TheVariants.{Connection}
use Rattle.live.specs.declared.ends.Got.TheVariants.{Octets, Quiet}

pub octets_came : (old new : LiveEnds) (peer : Peer) (len : ℕ) (buf : List ℕ) → old.connection
    ≡ Some peer →
    new
    ≡ record old {
      connection =
          Some (record peer { stream = noted peer.stream (looked (Octets len) buf) });
    }
    → LooksAt Connection 0 old (Some (Bytes len)) buf new
octets_came old new peer len buf there done = record {
  refused = [];
  strangers = no_strangers old.allow_list;
  peer = tt;
  found = sym (ap (λ c. of_open c (Octets len)) there);
  ends = done ∙ sym (ap (λ c. peer_read c (Octets len) buf old) there);
}

pub nothing_came : (old new : LiveEnds) (peer : Peer) (buf : List ℕ) → old.connection ≡ Some peer →
    new ≡ record old {
      connection = Some (record peer { stream = noted peer.stream (looked Quiet buf) });
    }
    → LooksAt Connection 0 old None buf new
nothing_came old new peer buf there done = record {
  refused = [];
  strangers = no_strangers old.allow_list;
  peer = tt;
  found = sym (ap (λ c. of_open c Quiet) there);
  ends = done ∙ sym (ap (λ c. peer_read c Quiet buf old) there);
}

pub octets_at : (seen old : LiveEnds) (address : IpAddr) (before after : StreamHistory) (len : ℕ)
    (buf : List ℕ) → seen ≡ old
    → seen.connection ≡ Some (record { address = address; stream = before })
    → after ≡ noted before (looked (Octets len) buf)
    → LooksAt Connection 0 old (Some (Bytes len)) buf
    (record seen { connection = Some (record { address = address; stream = after }) })
octets_at seen old address before after len buf same there noted_so =
    let new : LiveEnds =
    record seen { connection = Some (record { address = address; stream = after }) } in
    let P : LiveEnds → Type 0 = λ e. LooksAt Connection 0 e (Some (Bytes len)) buf new in
    subst P same (octets_came seen new (record { address = address; stream = before }) len buf there
    (ap (λ s. record seen { connection = Some (record { address = address; stream = s }) })
    noted_so))
