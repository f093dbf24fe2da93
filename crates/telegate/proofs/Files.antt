-- Files that can't be read.
use Rattle.std.proofs.Common.{◌≡◌, ℕ, List, [], ◌∷◌, ◌++◌, Option, Some, None, inl, inr, refl, sym}
use Rattle.std.proofs.Common.{subst}
use Rattle.std.specs.Prelude.{Bool, Result}
use Rattle.std.specs.Borrow.{Bor}
use Rattle.clap.specs.Words.{Text}
use Rattle.settings.specs.declared.site.Site.{Site as SiteFile}
use Rattle.telegate.specs.Shell.{IsNoSite, IsNotRead, IsUnread, ReplaysFile, Responds, RunsAsSaid}
use Rattle.telegate.specs.Shell.{ChecksBehind, PlayFiles, RunsAtSite, ShowsState, files_of}
use Rattle.state.specs.declared.files.reading.Stood.{Stood}
use Rattle.telegate.specs.CommandLine.{text_of}
use Rattle.telegate.specs.Wishes.{IsSiteIn, site_files}
use Rattle.telegate.specs.declared.run_words.RunWords.{RunWords}
use Rattle.telegate.specs.Manners.{manner_of}
use Rattle.telegate.specs.declared.host.Wishes.{Wishes}
use Rattle.telegate.specs.declared.command_line.CommandRequest.{CommandRequest}
use Rattle.telegate.specs.declared.command_line.CommandRequest.TheVariants.{Check, Replay, Run}
use Rattle.telegate.specs.declared.command_line.CommandRequest.TheVariants.{State}
use Rattle.telegate.specs.declared.command_line.CommandRequest.TheVariants.{Stations}
use Rattle.telegate.specs.declared.fault.Fault.{Fault}
use Rattle.telegate.specs.declared.host.Unread.{Unread}
use Rattle.telegate.specs.declared.host.Unread.TheVariants.{Unreadable, NoMemory}
use Rattle.telegate.proofs.Kept.{keeps_same}

module _ (has : Text → List ℕ → Type 0) (lacks : Text → Type 0) where
  -- one that can't be read is the first of a list that begins with it
  pub unread_first : (file : Text) (exit : ℕ) → lacks file → exit ≡ 3
      → IsNotRead has lacks (file ∷ []) exit
  unread_first file exit none status = record {
    name = file;
    why = Unreadable;
    unread = inl (refl, none);
    status =
        status;
  }

  pub unread_for_memory : (file : Text) (exit : ℕ) → exit ≡ 4 → IsNotRead has lacks (file ∷ []) exit
  unread_for_memory file exit status = record {
    name = file;
    why = NoMemory;
    unread = tt;
    status =
        status;
  }

  wider : (file : Text) (files : List Text) (name : Text) (why : Unread)
      → IsUnread has lacks (file ∷ []) name why
      → IsUnread has lacks (file ∷ files) name why
  wider file files name Unreadable (inl first) = inl first
  wider file files name Unreadable (inr later) = absurd later.1
  wider file files name NoMemory unread = tt

  -- if there is no file, only memory is missing
  among_none : (file name : Text) (why : Unread) → IsUnread has lacks [] name why
      → IsUnread has lacks (file ∷ []) name why
  among_none file name Unreadable unread = absurd unread
  among_none file name NoMemory unread = tt

  pub first_of_more : (file : Text) (files : List Text) (exit : ℕ)
      → IsNotRead has lacks (file ∷ []) exit
      → IsNotRead has lacks (file ∷ files) exit
  first_of_more file files exit h = record {
    name = h.name;
    why = h.why;
    unread =
        wider file files h.name h.why h.unread;
    status = h.status;
  }

  deeper : (file : Text) (octets : List ℕ) (files : List Text) (name : Text) (why : Unread)
      → has file octets
      → IsUnread has lacks files name why → IsUnread has lacks (file ∷ files) name why
  deeper file octets files name Unreadable read unread = inr ((octets, read), unread)
  deeper file octets files name NoMemory read unread = tt

  pub later_of_more : (file : Text) (octets : List ℕ) (files : List Text) (exit : ℕ)
      → has file octets
      → IsNotRead has lacks files exit → IsNotRead has lacks (file ∷ files) exit
  later_of_more file octets files exit read h = record {
    name = h.name;
    why = h.why;
    unread =
        deeper file octets files h.name h.why read h.unread;
    status = h.status;
  }

  -- the settings can't be read, behind the file of the site
  behind_site : (name : Option Text) (config : Text) (site : SiteFile) (exit : ℕ)
      → IsSiteIn has name site
      → IsNotRead has lacks (config ∷ []) exit
      → IsNotRead has lacks (site_files name ++ config ∷ []) exit
  behind_site None config site exit is unread = unread
  behind_site (Some name) config site exit is unread =
      later_of_more name is.0 (config ∷ []) exit is.1.0 unread

  -- the file of the site can't be read
  before_config : (name : Option Text) (config : Text) (exit : ℕ)
      → IsNotRead has lacks (site_files name) exit
      → IsNotRead has lacks (site_files name ++ config ∷ []) exit
  before_config None config exit unread = record {
    name = unread.name;
    why = unread.why;
    unread = among_none config unread.name unread.why unread.unread;
    status = unread.status;
  }
  before_config (Some name) config exit unread = first_of_more name (config ∷ []) exit unread

  module _ (ran : List ℕ → Wishes → Result (Unit {0}) Fault → Type 0) where
    -- what came of the words of a live run at a site
    pub at_site : (config : Text) (words : RunWords) (site : SiteFile) (exit : ℕ)
        → IsSiteIn has (text_of words.site) site
        → RunsAtSite has lacks ran config words site exit
        → RunsAsSaid has lacks ran config words exit
    at_site config words site exit is (inl came) =
        inl (inl (record { site = site; is = is; came = came }))
    at_site config words site exit is (inr unread) =
        inr (behind_site (text_of words.site) config site exit is unread)

    -- or there is none
    pub without_site : (config : Text) (words : RunWords) (exit : ℕ)
        → IsNoSite has lacks (text_of words.site) exit
        → RunsAsSaid has lacks ran config words exit
    without_site config words exit (inl wrong) = inl (inr wrong)
    without_site config words exit (inr unread) =
        inr (before_config (text_of words.site) config exit unread)

  module _ (ran : List ℕ → Wishes → Result (Unit {0}) Fault → Type 0) (answered : Text → List ℕ
      → List ℕ → Type 0)
      (silent : Text → Type 0)
      (played : List ℕ → List ℕ → Result (Unit {0}) Fault → Type 0)
      (stands : Text → Stood → Type 0) (colours : Bool) where
    -- a command whose files can't be read
    pub unanswered : (request : CommandRequest) (files : List Text) (known : Option (List ℕ))
        (exit : ℕ)
        → files_of request ≡ files → IsNotRead has lacks files exit
        → Responds has lacks ran answered silent played stands colours request known known exit
    unanswered request files known exit are h =
        inr (subst (λ (fs : List Text). IsNotRead has lacks fs exit) (sym are) h, keeps_same known)

    pub has_replayed : (request : CommandRequest) (config trace : Bor Text)
        (left counts words color : Bool) (octets : List ℕ)
        (old new : Option (List ℕ)) (exit : ℕ)
        → request ≡ Replay config trace left counts words color
        → has config.now octets
        → ReplaysFile has lacks trace.now octets (manner_of words color colours)
        (record { left = left; counts = counts })
        old new exit
        → Responds has lacks ran answered silent played stands colours request old new exit
    has_replayed request config trace left counts words color octets old new exit is read h =
        subst (λ (r : CommandRequest). Responds has lacks ran answered silent played stands colours
        r old
        new exit)
        (sym is)
        (elim h [
          | inl ran ↦ inl (record { octets = octets; read = read; ran = ran })
          | inr none ↦
              inr (later_of_more config.now octets (trace.now ∷ []) exit read none.0, none.1)
        ])

    pub has_run : (request : CommandRequest) (config : Bor Text) (words : RunWords)
        (known : Option (List ℕ)) (exit : ℕ)
        → request ≡ Run config words → RunsAsSaid has lacks ran config.now words exit
        → Responds has lacks ran answered silent played stands colours request known known exit
    has_run request config words known exit is h =
        subst (λ (r : CommandRequest). Responds has lacks ran answered silent played stands colours
        r known
        known
        exit)
        (sym is)
        (elim h [
          | inl came ↦ inl (came, keeps_same known)
          | inr none ↦ inr (none, keeps_same known)
        ])

    -- settings that were judged, behind the file of a site or alone
    pub has_checked : (request : CommandRequest) (config : Bor Text) (site : Option (Bor Text))
        (live explain : Bool) (old new : Option (List ℕ)) (exit : ℕ)
        → request ≡ Check config site live explain
        → ChecksBehind has lacks (text_of site) config.now
        (record { live = live; explain = explain }) old new exit
        → Responds has lacks ran answered silent played stands colours request old new exit
    has_checked request config site live explain old new exit is h =
        subst (λ (r : CommandRequest). Responds has lacks ran answered silent played stands colours
        r old
        new exit)
        (sym is) h

    pub have_played : (request : CommandRequest) (config script : Bor Text) (words : Bool)
        (known : Option (List ℕ))
        (exit : ℕ) → request ≡ Stations config script words
        → PlayFiles has lacks played config.now script.now exit
        → Responds has lacks ran answered silent played stands colours request known known exit
    have_played request config script words known exit is h =
        subst (λ (r : CommandRequest). Responds has lacks ran answered silent played stands colours
        r known
        known
        exit)
        (sym is)
        (elim h [
          | inl came ↦ inl (came, keeps_same known)
          | inr none ↦ inr (none, keeps_same known)
        ])

    pub has_shown : (request : CommandRequest) (directory : Bor Text) (config : Option (Bor Text))
        (reports : Bool) (old new : Option (List ℕ)) (exit : ℕ)
        → request ≡ State directory config reports
        → ShowsState has lacks stands directory.now (text_of config) reports old new exit
        → Responds has lacks ran answered silent played stands colours request old new exit
    has_shown request directory config reports old new exit is h =
        subst (λ (r : CommandRequest). Responds has lacks ran answered silent played stands colours
        r old
        new exit)
        (sym is) h
