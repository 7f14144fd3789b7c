-- The groups of keys that are read together: where they say something, their checks hold.
use Rattle.std.proofs.Common.{◌≡◌, ℕ, List, [], ◌∷◌, ◌++◌, map, refl, sym, ap, subst, ◌∙◌, inl, inr}
use Rattle.std.proofs.lemmas.List.{map_push}
use Rattle.serde_json.specs.Data.{Data, Items, no_items, item}
use Rattle.game_tables.specs.declared.kind.Kind.{Kind}
use Rattle.game_tables.specs.Kinds.{hits_max}
use Rattle.world_form.specs.declared.field.Field.TheVariants as fields
use Rattle.object_store.specs.declared.account.Account.{Account}
use Rattle.world_rules.specs.World.{ListedRoom}
use Rattle.world_form.specs.Facts.{Player, Defaults, IsWhole32, IsBodyList, IsList, IsListOf, SayEach, SaysRoom, SaysPlayer}
use Rattle.world_form.specs.Files.{told_tokens}
use Rattle.world_form.specs.FirstFaults.{AllHold, room_checks}
use Rattle.world_form.proofs.Said.{default_holds, room_holds}
use Rattle.world_text.specs.declared.draft.RoomDraft.{RoomDraft}
use Rattle.world_text.specs.declared.objects.Identity.{Identity}
use Rattle.world_text.specs.declared.objects.Holding.{Holding}
use Rattle.world_text.specs.inner.Readings.{SaysIdentity, identity_checks, SaysHolding, holding_checks}
use Rattle.world_text.specs.inner.Drafts.{SaysDraft, AreDrafts}

pub identity_holds : (place : ℕ) (part : Data) (said : Identity) → SaysIdentity part said → AllHold (identity_checks place part)
identity_holds place part said s = ((said.id, s.id), ((said.kind, s.kind), ((said.kind, s.kind, s.in_rules), ((said.x, s.x), ((said.y, s.y), tt)))))

pub holding_holds : (place : ℕ) (kind : Kind) (part : Data) (said : Holding) → SaysHolding kind part said → AllHold (holding_checks place part)
holding_holds place kind part said s = (
  default_holds fields.Owner IsWhole32 0 part said.owner s.owner,
  (default_holds fields.Body IsBodyList [] part said.body s.body, (default_holds fields.Hits IsWhole32 (hits_max kind said.body) part said.hits s.hits, tt)),
)

-- ---- lists of rooms

pub draft_holds : (place : ℕ) (part : Data) (draft : RoomDraft) → SaysDraft part draft → AllHold (room_checks place part)
draft_holds place part draft s = room_holds place part s.0 s.1

-- where each part says the room of a draft, the parts say rooms, and these are their drafts
pub rooms_said : (values : Items) (drafts : List RoomDraft) → SayEach SaysDraft values drafts → (rooms : List ListedRoom) × SayEach SaysRoom values rooms × AreDrafts rooms drafts
rooms_said no_items [] each = ([], tt, tt)
rooms_said no_items (draft ∷ drafts) each = absurd each
rooms_said (item value values) [] each = absurd each
rooms_said (item value values) (draft ∷ drafts) each = let rest = rooms_said values drafts each.1 in (each.0.0 ∷ rest.0, (each.0.1, rest.1), (each.0.2, rest.2))

-- ---- lists of players

-- one player more
pub players_more : (listed : List Player) (player : Player) (accounts accounts' : List Account) (tokens tokens' : List (ℕ × List ℕ)) → map (λ player. player.account) listed ≡ accounts → told_tokens listed ≡ tokens
    → accounts' ≡ accounts ++ player.account ∷ [] → tokens' ≡ tokens ++ (player.account.player, player.token) ∷ []
    → (map (λ player. player.account) (listed ++ player ∷ []) ≡ accounts') × (told_tokens (listed ++ player ∷ []) ≡ tokens')
players_more listed player accounts accounts' tokens tokens' same told more also = (
  map_push (λ (p : Player). p.account) listed player ∙ ap (λ (xs : List Account). xs ++ player.account ∷ []) same ∙ sym more,
  map_push (λ (p : Player). (p.account.player, p.token)) listed player ∙ ap (λ (ts : List (ℕ × List ℕ)). ts ++ (player.account.player, player.token) ∷ []) told ∙ sym also,
)

none_said : {A : Type 0} (Says : Data → A → Type 0) (list : List A) → SayEach Says no_items list → list ≡ []
none_said Says [] each = refl
none_said Says (said ∷ list) each = absurd each

-- what the values of the list say is what the key says
pub players_said : (part : Data) (values : Items) (listed : List Player) → Defaults fields.Players IsList no_items part values → SayEach SaysPlayer values listed → Defaults fields.Players (IsListOf SaysPlayer) [] part listed
players_said part values listed (inl there) each = inl (there.0, there.1, (values, there.2, each))
players_said part values listed (inr absent) each = inr (absent.0, none_said SaysPlayer listed (subst (λ (vs : Items). SayEach SaysPlayer vs listed) absent.1 each))
