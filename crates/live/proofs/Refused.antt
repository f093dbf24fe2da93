-- Whom the looks at the listener refuse. Those of a run are those of its looks, one after another.
use Rattle.std.proofs.Common.{◌≡◌, List, [], ◌∷◌, ◌++◌}
use Rattle.std.proofs.Common.{Option, Some, None, refl, ap}
use Rattle.std.specs.Prelude.{option_map}
use Rattle.std.proofs.lemmas.List.Elements.{All-cons}
use Rattle.std.specs.declared.net.ip_addr.IpAddr.{IpAddr}
use Rattle.live.specs.AllowLists.{Allows, Refusals, RefusesStrangers}
use Rattle.live.specs.AllowLists.{one_more_refused}
use Rattle.live.specs.declared.allow_list.AllowList.{AllowList}
use Rattle.live.specs.declared.ends.RefusedPeers.{RefusedPeers}
use Rattle.live.proofs.Plain.{no_strangers}

-- nobody, one after another
none_more : (peers : Option (List IpAddr)) → peers ≡ option_map (λ before. [] ++ before) peers
none_more None = refl
none_more (Some before) = refl

pub refuses_nobody : (g : AllowList) (r : Refusals) → RefusesStrangers g r r
refuses_nobody g r = record {
  refused = [];
  strangers = no_strangers g;
  ends = ap (λ p. record { peers = p; said = r.said }) (none_more r.peers);
}

pub refuses_one : (g : AllowList) (peer : IpAddr) (before : List IpAddr) (said : RefusedPeers)
    → (Allows g peer → ⊥)
    → RefusesStrangers g (record { peers = Some before; said = said })
    (record { peers = Some (peer ∷ before); said = one_more_refused peer said })
refuses_one g peer before said away = record {
  refused = peer ∷ [];
  strangers = All-cons (λ peer. Allows g peer → ⊥) peer [] away (no_strangers g);
  ends = refl;
}
