use Rattle.std.proofs.Common.{◌≡◌, ◌+◌, ◌-◌, ◌∷◌, ℕ, List, length, take, drop, ap, sym, subst, ◌∙◌, arith}
use Rattle.upload_stream.specs.Entries.{BeginsNone, BeginsWith, upload_of}
use Rattle.upload_stream.specs.Streams.{Upload as Entry, UploadList}
use Rattle.upload_stream.specs.inner.Reading.{uploads_in}
use Rattle.upload_stream.proofs.Parts.{as_read, first_is, none_is, rest_is, uploads_are}
use Rattle.upload_stream.proofs.uploads.Uploads.next.Goals as goal

pub returns-in_default-clause-none : goal.returns-in_default-clause-none
returns-in_default-clause-none c =
    let bytes = c.self.inside.bytes.now in
    let none = subst (BeginsNone 0) (ap (λ (p : List ℕ × ℕ). p.0) c.over-from.ensures) c.in_default.ensures.none in
    sym c.self.view_is ∙ none_is bytes (uploads_in bytes) c.self.invariant none

pub invariant_of-self : goal.invariant_of-self
invariant_of-self c =
    let bytes = c.self.inside.bytes.now in
    let rest = c.entry_ahead.new.from.0 in
    let upload = upload_of c.in-Ok.upload in
    let begins : BeginsWith 0 bytes upload rest = subst (λ (z : List ℕ). BeginsWith 0 z upload rest) (ap (λ (p : List ℕ × ℕ). p.0) c.over-from.ensures) c.in-Ok.ensures.found in
    let place : c.place.result + length rest ≡ length bytes = omega (arith, c.in-Ok.ensures.place, c.place.ensures, ap (λ (p : List ℕ × ℕ). p.1 + length p.0) c.over-from.ensures) in
    let first = first_is bytes (uploads_in bytes) c.self.invariant upload rest begins in
    subst (λ (z : List ℕ). UploadList z (uploads_in z)) (sym (rest_is bytes upload rest c.place.result begins place)) (as_read rest first.0 first.2)

pub returns-clause-some : goal.returns-clause-some
returns-clause-some c =
    let bytes = c.self.inside.bytes.now in
    let rest = c.entry_ahead.new.from.0 in
    let upload = upload_of c.in-Ok.upload in
    let begins : BeginsWith 0 bytes upload rest = subst (λ (z : List ℕ). BeginsWith 0 z upload rest) (ap (λ (p : List ℕ × ℕ). p.0) c.over-from.ensures) c.in-Ok.ensures.found in
    let place : c.place.result + length rest ≡ length bytes = omega (arith, c.in-Ok.ensures.place, c.place.ensures, ap (λ (p : List ℕ × ℕ). p.1 + length p.0) c.over-from.ensures) in
    let first = first_is bytes (uploads_in bytes) c.self.invariant upload rest begins in
    let read : first.0 ≡ uploads_in (take (length bytes - c.place.result) (drop c.place.result bytes)) = sym (uploads_are rest first.0 first.2) ∙ ap uploads_in (sym (rest_is bytes upload rest c.place.result begins place)) in
    sym c.self.view_is ∙ (first.1 ∙ ap (λ (z : List Entry). upload ∷ z) read)
