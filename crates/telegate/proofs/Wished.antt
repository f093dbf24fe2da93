-- What is wished of a live run.
use Rattle.std.proofs.Common.{◌≡◌, Bool, true, false, List, Some, None, option_map}
use Rattle.std.proofs.Common.{ℕ, sym, subst, ◌∙◌, ap, inr}
use Rattle.std.specs.Prelude.{map, string_bytes, String, Vec}
use Rattle.std.specs.declared.alloc.Global.{Global}
use Rattle.live.specs.declared.allow_list.AllowList.{AllowList}
use Rattle.settings.specs.Site.{IsSiteOf, SiteNames, site_of, texts_in}
use Rattle.settings.specs.declared.site.fault.SiteFault.TheVariants as why
use Rattle.telegate.specs.AllowLists.{IsAllowListOf}
use Rattle.telegate.specs.Wishes.{AreWishes, IsFirstSiteFault, IsGoodSite}
use Rattle.telegate.specs.Wishes.{IsWishFault, Said, nothing_said, said_in, said_of}
use Rattle.settings.specs.declared.site.Site.{Site as SiteFile}
use Rattle.telegate.specs.declared.fault.Fault.{Fault}
use Rattle.telegate.specs.declared.host.Wishes.{Wishes}

-- what a site's file says can be, if the words that say nothing are met beside it
pub can_be : (words : Said) (octets : List ℕ) (site : SiteFile) (names : SiteNames)
    (wishes : Wishes)
    → words ≡ nothing_said → IsSiteOf octets site
    → AreWishes (said_of words (said_in (site_of site))) names wishes
    → IsGoodSite octets
can_be words octets site names wishes none is are =
    let met : AreWishes (said_of nothing_said (said_in (site_of site))) names wishes =
    subst (λ (w : Said). AreWishes (said_of w (said_in (site_of site))) names wishes) none are in
    record {
      site = site;
      is = is;
      can = record {
        is_named = met.is_named;
        allow_list = wishes.allow_list;
        are =
            met.allow_list;
      };
    }

-- or it can't
pub unfit : (words : Said) (octets : List ℕ) (site : SiteFile) (fault : Fault)
    → words ≡ nothing_said
    → IsSiteOf octets site → IsWishFault words (said_in (site_of site)) fault
    → IsFirstSiteFault octets fault
unfit words octets site fault none is h =
    inr (record {
      site = site;
      is = is;
      unfit = subst (λ (w : Said). IsWishFault w (said_in (site_of site)) fault) none h;
    })
