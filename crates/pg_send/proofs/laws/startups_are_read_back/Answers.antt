use Rattle.std.proofs.Common.{◌≡◌, ◌≢◌, ℕ, ◌+◌, ◌-◌, ◌^◌, ◌<◌, ◌≤◌, true, false, All, List, [], ◌∷◌, ◌++◌, length, codes, Option, Some, None, refl, ap, ◌∙◌, arith, append-nil, append_assoc}
use Rattle.std.specs.Prelude.{◌==◌, ◌↔◌}
use Rattle.std.specs.List.{flat_map}
use Rattle.std.proofs.lemmas.Bool.{ne_eqb, le-leb, lt-ltb}
use Rattle.std.proofs.lemmas.List.Elements.{All-cons, All-head, All-tail}
use Rattle.pg_base.specs.Numbers.{be32}
use Rattle.pg_base.specs.Reading.{HoldsNo}
use Rattle.pg_format.specs.Format.{Means}
use Rattle.pg_format.specs.Format.Lists.{AllFit}
use Rattle.pg_format.specs.Messages as page
use Rattle.pg_format.proofs.ExamplesLemmas.{clean}
use Rattle.pg_format.proofs.FormatLaws.FromClient.{lawful_first_message}
use Rattle.pg_send.specs.RawStartup.{raw_startup_body, StartupIsOfPage}
use Rattle.pg_send.specs.Startup.{StartupFields, startup_body, setting, named_where_there, all_settings, IsReadable, IsReadableWhereThere, StartupCanRoundTrip}
use Rattle.pg_send.proofs.laws.startups_are_read_back.Goals as goal

-- ---- what the page writes

same_settings : (settings : List (List ℕ × List ℕ)) → flat_map setting settings ≡ flat_map page.setting.Writes settings
same_settings [] = refl
same_settings ((name, value) ∷ more) = ap (λ (l : List ℕ). setting (name, value) ++ l) (same_settings more)

-- a code of version 3 is that of no other message
no_other : (code : ℕ) → code < 262144 → ((code == 80877102) ≡ false) × ((code == 80877103) ≡ false) × ((code == 80877104) ≡ false)
no_other code low = (ne_eqb code 80877102 (λ e. omega (arith, low, e)), ne_eqb code 80877103 (λ e. omega (arith, low, e)), ne_eqb code 80877104 (λ e. omega (arith, low, e)))

version_3 : (code : ℕ) → 196608 ≤ code → code < 262144 → page.is_version_3 code ≡ true
version_3 code low high = rw (le-leb 196608 code low, lt-ltb code 262144 high) refl

by_version : (minor code : ℕ) (settings : List (List ℕ × List ℕ)) → minor < 2 ^ 16 → code ≡ 196608 + minor → page.startup.Writes settings ≡ (page.by_code code).Writes (page.opening minor settings)
by_version minor code settings small e =
    let none = no_other code (omega (arith, e, small)) in
    rw (none.0, none.1, none.2, version_3 code (omega (arith, e)) (omega (arith, e, small))) refl

of_page : (minor : ℕ) (settings : List (List ℕ × List ℕ)) → minor < 2 ^ 16 → StartupIsOfPage minor settings
of_page minor settings small =
    let same : flat_map setting settings ++ 0 ∷ [] ≡ page.startup.Writes settings = ap (λ (l : List ℕ). l ++ 0 ∷ []) (same_settings settings) in
    ap (λ (l : List ℕ). be32 (196608 + minor) ++ l) (same ∙ by_version minor (196608 + minor) settings small refl)

pub returns-clause-written : goal.returns-clause-written
returns-clause-written c = λ minor settings small. of_page minor settings small

-- ---- what a server reads

is_named : (name : List ℕ) → 0 < length name → name ≢ []
is_named [] named e = omega (arith, named)
is_named (b ∷ bytes) named e = absurd cc

settings_fit : (settings : List (List ℕ × List ℕ)) (rest : List ℕ) → All IsReadable settings → AllFit page.setting settings rest
settings_fit [] rest h = tt
settings_fit (s ∷ more) rest h =
    let is = All-head IsReadable s more h in
    (((is.name, is.value), is_named s.0 is.named), settings_fit more rest (All-tail IsReadable s more h))

fits_version : (minor code : ℕ) (settings : List (List ℕ × List ℕ)) → minor < 2 ^ 16 → code ≡ 196608 + minor → All IsReadable settings → (page.by_code code).Fits (page.opening minor settings) []
fits_version minor code settings small e h =
    let none = no_other code (omega (arith, e, small)) in
    rw (none.0, none.1, none.2, version_3 code (omega (arith, e)) (omega (arith, e, small)))
    ((settings_fit settings (0 ∷ []) h, refl), ap (λ (m : ℕ). page.opening m settings) (omega (arith, e)))

means : (minor : ℕ) (settings : List (List ℕ × List ℕ)) → minor < 2 ^ 16 → All IsReadable settings → Means page.first_message (raw_startup_body minor settings) (page.opening minor settings)
means minor settings small h =
    let fits : page.first_message.Fits (page.opening minor settings) [] = ((omega (arith, small), fits_version minor (196608 + minor) settings small refl h), refl) in
    let itself : Means page.first_message (page.first_message.Writes (page.opening minor settings)) (page.opening minor settings) = rw append-nil at (lawful_first_message.written (page.opening minor settings) [] fits) in
    rw (of_page minor settings small) itself

read_back : (minor : ℕ) (settings : List (List ℕ × List ℕ)) (read : page.First) → minor < 2 ^ 16 → All IsReadable settings → Means page.first_message (raw_startup_body minor settings) read ↔ (read ≡ page.opening minor settings)
read_back minor settings read small h =
    let itself = means minor settings small h in (
      (λ p. (lawful_first_message.one_value (raw_startup_body minor settings) [] [] read (page.opening minor settings) p itself).0),
      (λ e. rw e itself),
    )

pub returns-clause-read : goal.returns-clause-read
returns-clause-read c = λ minor settings small h read. read_back minor settings read small h

-- ---- a Startup

one_list : (user database : Option (List ℕ)) (params : List (List ℕ × List ℕ)) → startup_body (record { username = user; database = database; params = params }) ≡ raw_startup_body 0 (all_settings (record { username = user; database = database; params = params }))
one_list None None params = refl
one_list (Some user) None params = search append_assoc
one_list None (Some database) params = search append_assoc
one_list (Some user) (Some database) params = search append_assoc

pub returns-clause-named : goal.returns-clause-named
returns-clause-named c = λ s. one_list s.username s.database s.params

-- what a Startup has by name is readable with what follows
with_named : (name : List ℕ) (value : Option (List ℕ)) (more : List (List ℕ × List ℕ)) → 0 < length name → HoldsNo 0 name → IsReadableWhereThere value → All IsReadable more → All IsReadable (named_where_there name value ++ more)
with_named name None more named free h rest = rest
with_named name (Some value) more named free h rest = All-cons IsReadable (name, value) more (record { named = named; name = free; value = h }) rest

readable : (s : StartupFields) → StartupCanRoundTrip s → All IsReadable (all_settings s)
readable s h =
    let with_database = with_named (codes "database") s.database s.params (omega arith) (clean (codes "database") refl) h.database h.params in
    with_named (codes "user") s.username (named_where_there (codes "database") s.database ++ s.params) (omega arith) (clean (codes "user") refl) h.username with_database

pub returns-clause-readable : goal.returns-clause-readable
returns-clause-readable c = λ s h. readable s h
