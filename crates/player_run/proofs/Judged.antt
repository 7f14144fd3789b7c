-- Bytes have one judgement.
use Rattle.std.proofs.Common.{◌≡◌, ◌≢◌, ℕ, List, refl, sym, subst, All, Result, Ok, Err, IfErr}
use Rattle.wasm_values.specs.Syntax.{Ops}
use Rattle.wasm_module.specs.Sections.{Syntax, Spells}
use Rattle.wasm_module.specs.Limits.{IsTooLarge, IsWithin, PassesFirst}
use Rattle.wasm_module.specs.declared.module.Limit.{Limit}
use Rattle.wasm_module.specs.declared.module.Limit.TheVariants as limits
use Rattle.wasm_module.proofs.OnceModule.{module_once}
use Rattle.wasm_validate.specs.Floats.{HasNoFloat}
use Rattle.wasm_validate.specs.Modules.{IsValid}
use Rattle.wasm_link.specs.Linking.{Fits, FirstNot, IsFault, IsKnown, IsLinked, IsOfKind, Link, spans}
use Rattle.wasm_link.specs.declared.fault.LinkFault.{LinkFault}
use Rattle.wasm_link.specs.declared.fault.LinkFault.TheVariants as fault
use Rattle.wasm_link.proofs.Each.{all_at}
use Rattle.intent_book.specs.declared.refusal.Refusal.{Refusal}
use Rattle.intent_book.specs.declared.refusal.Refusal.TheVariants as refusals
use Rattle.host_calls.specs.Calls.{all_calls}
use Rattle.player_run.specs.Admission.{Accepts, IsRefused, IsUnlinked, SpellsWithin}
use Rattle.player_run.proofs.Signatures.{all_known, all_of_kind}
use Rattle.player_run.proofs.Programs.{link_once}

-- They are accepted with one program.
pub accepted_once : (bytes : List ℕ) (one other : Link) → Accepts bytes one → Accepts bytes other → one ≡ other
accepted_once bytes one other a b =
    let same : b.syntax ≡ a.syntax = module_once bytes b.syntax a.syntax b.spells.0.0 a.spells.0.0 in
    link_once a.syntax a.spells.2 all_calls a.sigs b.sigs a.calls b.calls one other a.linked
    (subst (λ (z : Syntax Ops). IsLinked b.sigs z other) same b.linked)

-- A module within the limits passes none.
passes_none : (limit : Limit) (m : Syntax Ops) → IsWithin m → PassesFirst limit m → ⊥
passes_none limits.Bytes m w p = p
passes_none limits.Functions m w p = p w.0
passes_none limits.Nesting m w p = p.1 w.1
passes_none limits.Locals m w p = p.2 w.2
passes_none limits.Pages m w p = p.3 w.3
passes_none limits.TableEntries m w p = p.4 w.4

-- Bytes that are too large spell no module within the limits.
pub large_or_within : (bytes : List ℕ) (limit : Limit) → IsTooLarge bytes limit → (m : Syntax Ops) → SpellsWithin bytes m → ⊥
large_or_within bytes limits.Bytes t m s = t s.1
large_or_within bytes limits.Functions t m s = passes_none limits.Functions t.1 (subst IsWithin (module_once bytes m t.1 s.0 t.2) s.2) t.3
large_or_within bytes limits.Nesting t m s = passes_none limits.Nesting t.1 (subst IsWithin (module_once bytes m t.1 s.0 t.2) s.2) t.3
large_or_within bytes limits.Locals t m s = passes_none limits.Locals t.1 (subst IsWithin (module_once bytes m t.1 s.0 t.2) s.2) t.3
large_or_within bytes limits.Pages t m s = passes_none limits.Pages t.1 (subst IsWithin (module_once bytes m t.1 s.0 t.2) s.2) t.3
large_or_within bytes limits.TableEntries t m s = passes_none limits.TableEntries t.1 (subst IsWithin (module_once bytes m t.1 s.0 t.2) s.2) t.3

pub no_first : {A : Type 0} (P : A → Type 0) (entries : List A) (place : ℕ) → All P entries → FirstNot P entries place → ⊥
no_first P entries place h f = f.refused (all_at P entries place f.entry h f.stands)

-- The module of a refusal is the one that is accepted.
module _ (bytes : List ℕ) (link : Link) (a : Accepts bytes link) where
  same_module : (m : Syntax Ops) → Spells bytes m → a.syntax ≡ m
  same_module m s = module_once bytes a.syntax m a.spells.0.0 s

  not_unlinked : (why : LinkFault) → why ≢ fault.Memory → IsUnlinked bytes why → ⊥
  not_unlinked why memory (m, s, sigs, calls, f) = faultless why memory (subst (λ (z : Syntax Ops). IsFault sigs z why) (sym (same_module m s.0.0)) f)
    where
      kinds : All (IsOfKind sigs a.syntax.types) a.syntax.imports
      kinds = all_of_kind all_calls a.sigs sigs a.calls calls a.syntax.types a.syntax.imports a.linked.imports

      faultless : (why : LinkFault) → why ≢ fault.Memory → IsFault sigs a.syntax why → ⊥
      faultless (fault.UnknownImport place) memory f = no_first (IsKnown sigs) a.syntax.imports place (all_known sigs a.syntax.types a.syntax.imports kinds) f
      faultless (fault.ImportKind place) memory f = no_first (IsOfKind sigs a.syntax.types) a.syntax.imports place kinds f.1
      faultless fault.NoLoop memory f = f.1 link.main a.linked.main
      faultless (fault.Segment place) memory f = no_first Fits (spans a.syntax) place a.linked.segments f.3
      faultless fault.Memory memory f = memory refl

  -- They are not refused.
  pub not_refused : (refusal : Refusal) → IsRefused bytes refusal → ⊥
  not_refused refusals.UnknownPlayer r = r
  not_refused refusals.WrongToken r = r
  not_refused refusals.TooLarge r = large_or_within bytes r.0 r.1 a.syntax a.spells.0
  not_refused refusals.Malformed r = r.1 a.syntax a.spells.0.0
  not_refused refusals.FloatRefused r = r.2 (subst HasNoFloat (same_module r.0 r.1.0) a.spells.1)
  not_refused refusals.Invalid r = r.3 (subst IsValid (same_module r.0 r.1.0) a.spells.2)
  not_refused refusals.UnknownImport r = not_unlinked (fault.UnknownImport r.0) (λ e. absurd cc) r.1
  not_refused refusals.ImportKind r = not_unlinked (fault.ImportKind r.0) (λ e. absurd cc) r.1
  not_refused refusals.NoLoop r = not_unlinked fault.NoLoop (λ e. absurd cc) r
  not_refused refusals.Segment r = not_unlinked (fault.Segment r.0) (λ e. absurd cc) r.1
  not_refused refusals.Memory r = r

pub refused_or_accepted : (bytes : List ℕ) (refusal : Refusal) (link : Link) → IsRefused bytes refusal → Accepts bytes link → ⊥
refused_or_accepted bytes refusal link r a = not_refused bytes link a refusal r

-- Where the bytes are refused they are not accepted, unless memory is wanted.
pub refused_whole : {A : Type 0} (bytes : List ℕ) (r : Result A Refusal) → IfErr r (λ e. e ≢ refusals.Memory → IsRefused bytes e) → IfErr r (λ e. e ≢ refusals.Memory → (link : Link) → Accepts bytes link → ⊥)
refused_whole bytes (Ok x) h = h
refused_whole bytes (Err e) h = λ memory link a. refused_or_accepted bytes e link (h memory) a
