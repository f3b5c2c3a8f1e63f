-- What of a text's words the layers above cite.
unfoldable pub use Rattle.reader_parts.specs.Words.{among, numeral_of, price_of}
