-- What is built of a draft that keeps the rules is what the file says; a rule that the draft breaks first is the file's fault.
use Rattle.std.proofs.Common.{◌≡◌, ℕ, ◌≤◌, ◌^◌, List, [], ◌∷◌, ◌++◌, map, length, refl, sym, ap, subst, ◌∙◌, arith}
use Rattle.std.specs.List.{AllByRecursion}
use Rattle.std.proofs.lemmas.List.{length-map}
use Rattle.game_tables.specs.Limits.{most_rooms, most_players}
use Rattle.object_store.specs.declared.world.Room.{Room}
use Rattle.room_table.specs.Tables.{IsRising}
use Rattle.object_store.specs.Stored.{Stored, HaveRisingTables, AreRising}
use Rattle.world_rules.specs.World.{ListedRoom, listed_room, listing_of, world_of, world_listed}
use Rattle.world_rules.specs.Rules.{KeepsRules}
use Rattle.world_rules.specs.Sound.{IsSound, IsSoundRoom}
use Rattle.world_form.specs.declared.fault.WorldFault.{WorldFault}
use Rattle.world_form.specs.declared.fault.WorldFault.TheVariants as faults
use Rattle.world_form.specs.Facts.{Filed, filed_listing}
use Rattle.world_form.specs.Files.{AreTokens, HasFault, Lists, Says, told_tokens}
use Rattle.world_form.specs.Written.{IsWritable, IsWritableRoom}
use Rattle.world_form.proofs.InFile.{few_rooms, few_players}
use Rattle.world_text.specs.declared.draft.RoomDraft.{RoomDraft}
use Rattle.world_text.specs.declared.draft.Draft.{Draft}
use Rattle.world_text.specs.inner.Drafts.{drafted, drafted_room, BreaksFirst, HavePlaces, IsDraft, IsInOrder, IsRisingDraft}
use Rattle.world_text.proofs.Reordered.{turned, first_moved, kept_moved, world_moved}
use Rattle.world_text.proofs.Rising.{accounts_rise, drafts_rise, once_permuted, players_once, tokens_once, tokens_rise}
use Rattle.world_text.proofs.Fits.{accounts_writable, draft_reordered, in_order, rooms_writable}

-- ---- refused drafts

pub rule_fault : (bytes : List ℕ) (filed : Filed) (draft : Draft) (fault : WorldFault) → Says bytes filed → IsDraft filed draft → BreaksFirst (drafted draft) fault → HasFault bytes fault
rule_fault bytes filed draft faults.TooLong says d broken = absurd broken
rule_fault bytes filed draft faults.NotJson says d broken = absurd broken
rule_fault bytes filed draft (faults.Missing field) says d broken = absurd broken
rule_fault bytes filed draft (faults.BadValue field place) says d broken = absurd broken
rule_fault bytes filed draft (faults.NotBuilt kind) says d broken = absurd broken
rule_fault bytes filed draft (faults.Rule rule n) says d broken =
    (filed, says, first_moved (drafted draft) (filed_listing filed) (turned (filed_listing filed) (drafted draft) (draft_reordered filed draft d)) rule n broken)
rule_fault bytes filed draft faults.Memory says d broken = tt

-- ---- accepted drafts

pub orderly : (bytes : List ℕ) (filed : Filed) (draft : Draft) → Says bytes filed → IsDraft filed draft → IsInOrder draft
orderly bytes filed draft says d = in_order says.0 filed draft says.2 d

pub rooms_few : (draft : Draft) → KeepsRules (drafted draft) → length draft.rooms.items ≤ most_rooms
rooms_few draft keeps = let few : length (map drafted_room draft.rooms.items) ≤ most_rooms = few_rooms (drafted draft) keeps in omega (arith, length-map draft.rooms.items drafted_room)

pub accounts_few : (draft : Draft) → KeepsRules (drafted draft) → length draft.players.accounts.items ≤ most_players
accounts_few draft keeps = few_players (drafted draft) keeps

pub rooms_rising : (draft : Draft) → KeepsRules (drafted draft) → IsInOrder draft → AllByRecursion IsRisingDraft draft.rooms.items
rooms_rising draft keeps order = drafts_rise (drafted draft) draft.rooms.items refl keeps order.rooms

pub accounts_rising : (draft : Draft) → KeepsRules (drafted draft) → IsInOrder draft → AreRising draft.players.accounts.items
accounts_rising draft keeps order = accounts_rise draft.players.accounts.items order.accounts (players_once (drafted draft) keeps)

-- The world that is stored is built of the draft.
pub record IsBuilt (draft : Draft) (stored : Stored) : Type 0 where
  pub tick : stored.tick ≡ draft.tick
  pub rooms : map listed_room stored.rooms ≡ map drafted_room draft.rooms.items
  pub places : HavePlaces stored.rooms
  pub accounts : stored.accounts ≡ draft.players.accounts.items

pub built_of : (draft : Draft) (empty middle stored : Stored) → empty ≡ record { tick = draft.tick; rooms = []; accounts = [] } → map listed_room middle.rooms ≡ map listed_room empty.rooms ++ map drafted_room draft.rooms.items → HavePlaces middle.rooms
    → middle.tick ≡ empty.tick → stored ≡ record middle { accounts = draft.players.accounts.items } → IsBuilt draft stored
built_of draft empty middle stored none rooms places tick last =
    subst (IsBuilt draft) (sym last) (record { tick = tick ∙ ap (λ (w : Stored). w.tick) none; rooms = rooms ∙ ap (λ (w : Stored). map listed_room w.rooms ++ map drafted_room draft.rooms.items) none; places = places; accounts = refl })

module _ (bytes : List ℕ) (filed : Filed) (draft : Draft) (says : Says bytes filed) (d : IsDraft filed draft) (keeps : KeepsRules (drafted draft)) where
  kept : KeepsRules (filed_listing filed)
  kept = kept_moved (drafted draft) (filed_listing filed) (turned (filed_listing filed) (drafted draft) (draft_reordered filed draft d)) keeps

  pub lists : Lists bytes filed
  lists = (says, kept)

  listing_is : (stored : Stored) → IsBuilt draft stored → listing_of stored ≡ drafted draft
  listing_is stored b = λ i. record { rules = 1; tick = b.tick i; rooms = b.rooms i; accounts = b.accounts i }

  pub world_is : (stored : Stored) → IsBuilt draft stored → world_of stored ≡ world_listed (filed_listing filed)
  world_is stored b = ap world_listed (listing_is stored b) ∙ sym (world_moved (filed_listing filed) (drafted draft) (draft_reordered filed draft d) kept)

  pub tokens_are : AreTokens filed.players draft.players.tokens.items
  tokens_are =
      let tokens = d.players.tokens in
      let once = once_permuted (λ token. token.0) (told_tokens filed.players) draft.players.tokens.items tokens.moved (tokens_once filed.players (players_once (filed_listing filed) kept)) in
      (tokens.moved, tokens_rise draft.players.tokens.items tokens.order once)

  tables_rise : (rooms : List Room) (drafts : List RoomDraft) → map listed_room rooms ≡ map drafted_room drafts → AllByRecursion IsRisingDraft drafts → HaveRisingTables rooms
  tables_rise [] drafts are rising = tt
  tables_rise (room ∷ rooms) [] are rising = absurd cc
  tables_rise (room ∷ rooms) (x ∷ drafts) are rising =
      let first : listed_room room ≡ drafted_room x = cc in
      let rest : map listed_room rooms ≡ map drafted_room drafts = cc in
      (subst (λ (listed : ListedRoom). IsRising listed.objects) (sym first) rising.0.rising, tables_rise rooms drafts rest rising.1)

  sound_rooms : (rooms : List Room) → AllByRecursion IsWritableRoom rooms → AllByRecursion IsSoundRoom rooms
  sound_rooms [] writable = tt
  sound_rooms (room ∷ rooms) writable = (record { begun = writable.0.next; tiles = writable.0.objects }, sound_rooms rooms writable.1)

  pub sound : (stored : Stored) → IsBuilt draft stored → IsSound stored
  sound stored b =
      let order = orderly bytes filed draft says d in
      record {
        places = b.places;
        tables = tables_rise stored.rooms draft.rooms.items b.rooms (rooms_rising draft keeps order);
        rooms = sound_rooms stored.rooms (rooms_writable says.0 filed draft stored.rooms says.2 d b.rooms);
        accounts = subst AreRising (sym b.accounts) (accounts_rising draft keeps order);
        rules = λ rule n no_counts no_sites broken. subst KeepsRules (sym (listing_is stored b)) keeps rule n broken;
      }

  pub writable : (stored : Stored) → IsBuilt draft stored → IsWritable stored
  writable stored b =
      let high : filed.tick ≤ 2 ^ 53 = says.2.tick.2.2 in
      let tick : stored.tick ≡ filed.tick = b.tick ∙ d.tick in
      record {
        tick = rw tick high;
        rooms = rooms_writable says.0 filed draft stored.rooms says.2 d b.rooms;
        accounts = rw b.accounts (accounts_writable says.0 filed draft says.2 d);
        sound = sound stored b;
        rules = subst KeepsRules (sym (listing_is stored b)) keeps;
      }
