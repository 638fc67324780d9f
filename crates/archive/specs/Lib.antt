-- Archives, of documents 01 and 02:
--   Walk       the records of an archive, the last first
--   Listing    the text that the listing program prints of one
pub mod Walk
pub mod Listing
